-- What an entry makes of what is known of transfers.
use Rattle.std.proofs.Common.{◌≡◌, refl, sym, ◌∙◌, ap, ℕ, ◌+◌, Bool, true, false, cond, ◌||◌, List, [], ◌∷◌, Option, Some, None, take, get_or, length, ◌<◌, arith, eqb-true}
use Rattle.std.specs.Prelude.{◌==◌}
use Rattle.std.specs.List.{list_any}
use Rattle.std.specs.Option.{option_and_then, option_map}
use Rattle.std.proofs.lemmas.List.Folds.{list_any_more}
use Rattle.ftp_base.specs.declared.net.IpAddr.{IpAddr}
use Rattle.ftp_options.specs.declared.options.Options.{Options}
use Rattle.ftp_transfer.specs.declared.job.Ticket.{Ticket}
use Rattle.ftp_events.specs.declared.action.Action.{Action}
use Rattle.ftp_events.specs.declared.decision.Decision.{Decision}
use Rattle.ftp_events.specs.declared.entry.Entry.{Entry}
use Rattle.ftp_events.specs.declared.session.Pending.{Pending}
use Rattle.ftp_events.specs.Tallies.{saturated}
use Rattle.ftp_laws.specs.Fates.{queues, settles}
use Rattle.ftp_laws.specs.Pieces.{bytes_moved, is_about, moved_by}
use Rattle.ftp_laws.proofs.ClassLemmas.{queued-as}
use Rattle.ftp_laws.proofs.TableLemmas.{same-both}
use Rattle.ftp_audit.specs.declared.guest.Guest.{Guest}
use Rattle.ftp_audit.specs.declared.request.Request.{Request}
use Rattle.ftp_audit.specs.Guests.{guest_in}
use Rattle.ftp_audit.specs.Requests.{asked_for_in, begins_it, begun_at, more_moved, pieces_moved, request_acted, request_by, request_by_entry, request_in, request_of, settles_in, started_in_log, with_more, with_progress}

-- so many bytes more, where no more are counted than a type has
pub more-saturated : (m n : ℕ) → more_moved (saturated m) n ≡ saturated (m + n)
more-saturated m n = go (n == 0) refl
  where
    go : (b : Bool) → (n == 0) ≡ b → cond b (saturated m) (saturated (saturated m + n)) ≡ saturated (m + n)
    go true x = ap saturated (omega (arith, eqb-true n 0 x))
    go false x = omega arith

-- no bytes more change nothing
pub with-none : (r : Option Request) → option_map (with_more 0) r ≡ r
with-none None = refl
with-none (Some r) = refl

-- an entry that queues a transfer moves nothing of it
pub queued-still : (t : Ticket) (e : Entry) → queues t e.decision ≡ true → moved_by t e ≡ 0
queued-still t e q = ap (λ (d : Decision). cond (is_about t e.event.kind) (bytes_moved d e.answer) 0) (queued-as t e.decision q) ∙ same-both (is_about t e.event.kind) 0

-- a transfer that is queued has not come far
fresh : (client : IpAddr) (p : Option Pending) → option_map (with_progress None 0) (option_map (request_of client) p) ≡ option_map (request_of client) p
fresh client None = refl
fresh client (Some p) = refl

fresh-begun : (client : IpAddr) (at : ℕ) (p : Option Pending) → option_map (with_progress (Some at) 0) (option_map (request_of client) p) ≡ option_map (begun_at at) (option_map (request_of client) p)
fresh-begun client at None = refl
fresh-begun client at (Some p) = refl

-- of one that was queued before
later : (started : Option ℕ) (m n : ℕ) (r : Option Request) → option_map (with_progress started (saturated (m + n))) r ≡ option_map (with_more n) (option_map (with_progress started (saturated m)) r)
later started m n None = refl
later started m n (Some r) = ap (λ (k : ℕ). Some (with_progress started k r)) (sym (more-saturated m n))

later-begun :
    (started : Option ℕ) (at m n : ℕ) (r : Option Request) →
    option_map (with_progress (Some at) (saturated (m + n))) r ≡ option_map (begun_at at) (option_map (with_more n) (option_map (with_progress started (saturated m)) r))
later-begun started at m n None = refl
later-begun started at m n (Some r) = ap (λ (k : ℕ). Some (with_progress (Some at) k r)) (sym (more-saturated m n))

-- after an entry what is known of a transfer is what the log tells with it
pub request_in-more :
    (o : Options) (log : List Entry) (e : Entry) (t : Ticket) →
    request_in o (e ∷ log) t ≡ request_by_entry e t (guest_in o log t.session) (request_in o log t)
request_in-more o log e t = go (settles_in e t) (queues t e.decision) (list_any (begins_it t) e.actions) refl refl refl
  where
    old : Option Request
    old = asked_for_in o log t

    made : (g : Option Guest) → option_map (with_progress None 0) (option_and_then (request_by e) g) ≡ option_and_then (request_by e) g
    made None = refl
    made (Some g) = fresh g.client _

    made-begun : (g : Option Guest) → option_map (with_progress (Some e.event.at) 0) (option_and_then (request_by e) g) ≡ option_map (begun_at e.event.at) (option_and_then (request_by e) g)
    made-begun None = refl
    made-begun (Some g) = fresh-begun g.client e.event.at _

    go :
        (s q b : Bool) → settles_in e t ≡ s → queues t e.decision ≡ q → list_any (begins_it t) e.actions ≡ b →
        request_in o (e ∷ log) t ≡ request_by_entry e t (guest_in o log t.session) (request_in o log t)
    go true q b x y z = rw x refl
    go false true true x y z =
        rw (x, y, z, queued-still t e y)
        (made-begun (guest_in o log t.session) ∙ ap (option_map (begun_at e.event.at)) (sym (with-none (option_and_then (request_by e) (guest_in o log t.session)))))
    go false true false x y z =
        rw (x, y, z, queued-still t e y)
        (made (guest_in o log t.session) ∙ sym (with-none (option_and_then (request_by e) (guest_in o log t.session))))
    go false false true x y z = rw (x, y, z) (later-begun (started_in_log log t) e.event.at (pieces_moved log t) (moved_by t e) old)
    go false false false x y z = rw (x, y, z) (later (started_in_log log t) (pieces_moved log t) (moved_by t e) old)

-- one action more
pub acted-more :
    (at : ℕ) (actions : List Action) (i : ℕ) (action : Action) (t : Ticket) (r : Option Request) →
    i < length actions →
    request_acted at (take (i + 1) actions) t r ≡ request_acted at (get_or actions i action ∷ []) t (request_acted at (take i actions) t r)
acted-more at actions i action t r lt =
    rw (list_any_more (settles t) actions i action lt, list_any_more (begins_it t) actions i action lt)
    (go (list_any (settles t) (take i actions)) (list_any (begins_it t) (take i actions)) (settles t (get_or actions i action)) (begins_it t (get_or actions i action)) r)
  where
    go :
        (s b x y : Bool) (r : Option Request) →
        cond {A = Option Request} (s || x) None (cond (b || y) (option_map (begun_at at) r) r)
        ≡ cond (x || false) None (cond (y || false) (option_map (begun_at at) (cond s None (cond b (option_map (begun_at at) r) r))) (cond s None (cond b (option_map (begun_at at) r) r)))
    go true b true y r = refl
    go true b false true r = refl
    go true b false false r = refl
    go false b true y r = refl
    go false true false true None = refl
    go false true false true (Some r) = refl
    go false true false false r = refl
    go false false false true r = refl
    go false false false false r = refl

-- no action
pub acted-none : (at : ℕ) (t : Ticket) (r : Option Request) → request_acted at [] t r ≡ r
acted-none at t r = refl
