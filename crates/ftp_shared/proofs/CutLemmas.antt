-- What is true of a hub with a checkpoint and a tail stays true over a step, and where the tail gives way to a new checkpoint.
use Rattle.std.proofs.Common.{◌≡◌, refl, sym, ◌∙◌, subst, ℕ, ◌+◌, ◌≤◌, Bool, true, false, cond, List, [], ◌∷◌, ◌++◌, length, Option, arith, ltb-true}
use Rattle.std.specs.Prelude.{nat_lt}
use Rattle.ftp_options.specs.declared.options.Options.{Options}
use Rattle.ftp_events.specs.declared.entry.Entry.{Entry}
use Rattle.ftp_events.specs.Right.{replies}
use Rattle.ftp_events.specs.Words.{is_number}
use Rattle.ftp_hub.specs.declared.hub.Hub.{Hub}
use Rattle.ftp_hub.specs.Stands.{Stands, count_of, options_of}
use Rattle.ftp_shared.specs.declared.outbox.Outbox.{Outbox}
use Rattle.ftp_shared.specs.Cut.{KeepsCut}
use Rattle.ftp_shared.specs.Keeps.{KeepsLog}
use Rattle.ftp_shared.specs.Outbox.{IsRest, newest, outbox_in, sorted}
use Rattle.ftp_shared.proofs.KeepsLemmas.{kept-ready, kept-step, outbox-sorted}

-- a hub is its own checkpoint
pub cut-new : (o : Options) (hub : Hub) (log : List Entry) (box : Outbox) → KeepsLog o hub log [] box → KeepsCut o hub [] box
cut-new o hub log box k = record { base = hub; front = log; stood = k.stands; replay = λ log st. st; kept = k }

-- memory that is taken changes nothing
pub cut-ready :
    {o : Options} {hub new : Hub} {tail : List Entry} {box after : Outbox} →
    KeepsCut o hub tail box →
    ((log : List Entry) → Stands hub log → Stands new log) → options_of new ≡ options_of hub → count_of new ≡ count_of hub →
    ((s : ℕ) → outbox_in after (newest tail) s ≡ outbox_in box (newest tail) s) →
    KeepsCut o new tail after
cut-ready {tail = tail} k stands options count same =
    record {
      base = k.base;
      front = k.front;
      stood = k.stood;
      replay = λ log st. stands (tail ++ log) (k.replay log st);
      kept = kept-ready k.kept (stands (tail ++ k.front) k.kept.stands) options count same;
    }

-- a full tail gives way: the hub is the checkpoint from then on
pub cut-clear :
    (o : Options) (hub : Hub) (tail : List Entry) (box : Outbox) → length (newest tail) ≤ box.next →
    KeepsCut o hub tail box → KeepsCut o hub [] box
cut-clear o hub tail box all k =
    let before = tail ++ k.front in
    cut-new o hub before box (record {
      options = k.kept.options;
      stands = k.kept.stands;
      events = k.kept.events;
      rests = λ s. subst (λ xs. IsRest xs (replies before s)) (outbox-sorted box (newest tail) s all ∙ sym (outbox-sorted box [] s (omega arith))) (k.kept.rests s);
    })

-- so it does where it is full, and stays where it is not
pub cut-at :
    (o : Options) (hub : Hub) (tail : List Entry) (box : Outbox) (every : ℕ) → length (newest tail) ≤ box.next →
    KeepsCut o hub tail box →
    KeepsCut o hub (cond (nat_lt (length tail) every) tail []) box
cut-at o hub tail box every all k = go (nat_lt (length tail) every)
  where
    go : (b : Bool) → KeepsCut o hub (cond b tail []) box
    go true = k
    go false = cut-clear o hub tail box all k

-- of the newest entry all is sorted in still
pub newest-at : (tail : List Entry) (b : Bool) (n : ℕ) → length (newest tail) ≤ n → length (newest (cond b tail [])) ≤ n
newest-at tail true n h = h
newest-at tail false n h = omega arith

-- a step adds its entry to the tail
pub cut-step :
    (o : Options) (hub new : Hub) (tail : List Entry) (e : Entry) (box after : Outbox) (own : Option ℕ) →
    KeepsCut o hub tail box →
    ((log : List Entry) → Stands hub log → Stands new (e ∷ log)) → options_of new ≡ options_of hub → count_of new ≡ count_of hub + 1 →
    length (newest tail) ≤ box.next →
    ((s : ℕ) → sorted after s ≡ cond (is_number own s) [] (sorted box s)) →
    after.next ≡ 0 → after.told ≡ own →
    KeepsCut o new (e ∷ tail) after
cut-step o hub new tail e box after own k stands options count all kept next told =
    let before = tail ++ k.front in
    record {
      base = k.base;
      front = k.front;
      stood = k.stood;
      replay = λ log st. stands (tail ++ log) (k.replay log st);
      kept = kept-step o hub new before (newest tail) e box after own k.kept (stands before k.kept.stands) options count all kept next told;
    }

-- a tail that is not full has room for one more
pub cut-bounded : (tail : List Entry) (every : ℕ) → 1 ≤ every → length (cond (nat_lt (length tail) every) tail []) + 1 ≤ every
cut-bounded tail every some = go (nat_lt (length tail) every) refl
  where
    go : (b : Bool) → nat_lt (length tail) every ≡ b → length (cond b tail []) + 1 ≤ every
    go true h = omega (arith, ltb-true (length tail) every h)
    go false h = omega (arith, some)
