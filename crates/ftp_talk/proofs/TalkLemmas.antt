-- One turn of a talk.
use Rattle.std.proofs.Common.{◌≡◌, ℕ, suc, ◌+◌, ◌-◌, ◌^◌, ◌≤◌, Bool, true, List, [], ◌∷◌, ◌++◌, length, Option, Some, None, refl, sym, ap, subst, ◌∙◌, arith, eq-eqb, inl, inr}
use Rattle.std.specs.Prelude.{IfSome, if◌then◌else◌}
use Rattle.std.specs.List.{AllByRecursion}
use Rattle.std.specs.Option.{option_map_or}
use Rattle.std.proofs.lemmas.Bool.{cases_lt}
use Rattle.ftp_base.specs.declared.reply.Reply.{Reply}
use Rattle.ftp_base.specs.Edge.{Feed, EdgeView, Takes, IsCounted, next_number, behind_moment, behind_word, behind_lookup, behind_port, behind_connect}
use Rattle.ftp_base.specs.Outside.{HasRisen, Writes}
use Rattle.ftp_options.specs.declared.options.Options.{Options}
use Rattle.ftp_events.specs.declared.entry.Entry.{Entry}
use Rattle.ftp_events.specs.declared.event.EventKind.{EventKind}
use Rattle.ftp_events.specs.declared.event.EventKind.TheVariants as kind
use Rattle.ftp_shared.specs.Outbox.{own_session, outbox_after, replies_in}
use Rattle.ftp_shared.specs.Desk.{DeskView, SameDesk, Appends, IsVouched, RisesBy}
use Rattle.ftp_talk.specs.Saying.{IsPaused}
use Rattle.ftp_talk.specs.Pieces.{Pieces, piece_text, piece_delays, SaysPieces}
use Rattle.ftp_talk.proofs.PieceLemmas.{wrote-pieces, paused-pieces, pieces-behind, pieces-all}
use Rattle.ftp_talk.specs.declared.control_session.ControlSession.{ControlSession}
use Rattle.ftp_talk.specs.Ground.{Step, Turn, Ground, history}
use Rattle.ftp_talk.specs.Commands.{asked_name, asked_range, asked_target}
use Rattle.ftp_talk.specs.Turns.{is_end}
use Rattle.ftp_talk.specs.Seen.{IsSeen, behind_asked, behind_kind, IsDrawn, AreFed, feed_after, missing_in, failed_in, all_missing, all_failed}
use Rattle.ftp_talk.specs.Talk.{Grew, AreVouched, Shares, greeting_of}
use Rattle.ftp_talk.specs.Speaking.{Knows, Keeps, StandsAfter, Speaking, Asking, Front, Entered, turn_of}

-- ---- counts

pub counted-on : (n old mid new : ℕ) → IsCounted n old mid → mid ≤ new → IsCounted n old new
counted-on n old mid new h le = λ lt. omega (arith, h (omega arith))

pub counted-more : (a b old mid new : ℕ) → IsCounted a old mid → IsCounted b mid new → mid ≤ new → IsCounted (a + b) old new
counted-more a b old mid new h k le = λ lt. omega (arith, h (omega arith), k lt)

pub counted-less : (a b old mid new : ℕ) → IsCounted (a + b) old mid → mid ≤ new → IsCounted a old new
counted-less a b old mid new h le = λ lt. omega (arith, h (omega arith))

pub rises-more : (m n : ℕ) (old mid new : Option ℕ) → RisesBy m old mid → RisesBy n mid new → RisesBy (m + n) old new
rises-more m n None mid new h k = tt
rises-more m n (Some o) mid new h k =
    let rest = subst (λ (x : Option ℕ). RisesBy n x new) h.1 k in
    (rest.0, rest.1, omega (arith, h.2, rest.2))

pub rises-same : (n : ℕ) (old mid new : Option ℕ) → RisesBy n old mid → RisesBy 0 mid new → RisesBy n old new
rises-same n None mid new h k = tt
rises-same n (Some o) mid new h k =
    let rest = subst (λ (x : Option ℕ). RisesBy 0 x new) h.1 k in
    (rest.0, rest.1, omega (arith, h.2, rest.2))

-- a count rose behind one that did not fall
pub risen-on : (a b c : ℕ) → a ≤ b → HasRisen b c → b ≤ c → HasRisen a c
risen-on a b c ab h bc = λ lt.
    elim (cases_lt b (2 ^ 64 - 1)) [
      | inl less ↦ omega (arith, h less)
      | inr ge ↦ omega arith
    ]

-- ---- lists of the edge

behind_asked-moments : {Q : Type 0} (q : Option Q) (after : Feed → Feed) (f : Feed) → ((x : Feed) → (after x).moments ≡ x.moments) → (behind_asked q after f).moments ≡ f.moments
behind_asked-moments None after f h = refl
behind_asked-moments (Some q) after f h = h f

-- what an event takes besides its moment leaves the moments
behind_kind-moments : (g : Ground) (h : List Entry) (k : EventKind) (f : Feed) → (behind_kind g h k f).moments ≡ f.moments
behind_kind-moments g h (kind.Pasv s word lookup bound) f =
    behind_asked-moments (asked_range g h) behind_port (behind_asked (asked_name g h) behind_lookup (behind_word f)) (λ x. refl)
    ∙ behind_asked-moments (asked_name g h) behind_lookup (behind_word f) (λ x. refl)
behind_kind-moments g h (kind.Port s text number) f = behind_asked-moments (asked_target g h text) behind_connect f (λ x. refl)
behind_kind-moments g h (kind.Stou s word) f = refl
behind_kind-moments g h _ f = refl

fed-more : (g : Ground) (feed0 feed : Option Feed) (ts : List Turn) (e : Entry) →
    IfSome feed0 (λ f. AreFed g f ts) →
    IfSome feed0 (λ f. IsDrawn g (history g ts) e.event.kind (feed_after g f ts) × (feed ≡ Some (behind_kind g (history g ts) e.event.kind (feed_after g f ts)))) →
    IfSome feed (λ f. e.event.at ≡ next_number f.moments) →
    IfSome feed0 (λ f. AreFed g f ts × ((e.event.at ≡ next_number (feed_after g f ts).moments) × IsDrawn g (history g ts) e.event.kind (feed_after g f ts)))
fed-more g None feed ts e fed drawn moment = tt
fed-more g (Some f) feed ts e fed drawn moment =
    let at = subst (λ (o : Option Feed). IfSome o (λ f. e.event.at ≡ next_number f.moments)) drawn.1 moment in
    (fed, (at ∙ ap next_number (behind_kind-moments g (history g ts) e.event.kind (feed_after g f ts)), drawn.0))

-- two calls behind one another
feed-more : (g : Ground) (feed0 : Option Feed) (edge edge1 edge2 : EdgeView) (ts : List Turn) (e : Entry) →
    IfSome feed0 (λ f. IsDrawn g (history g ts) e.event.kind (feed_after g f ts) × (edge.feed ≡ Some (behind_kind g (history g ts) e.event.kind (feed_after g f ts)))) →
    Takes behind_moment edge edge1 → Takes (λ f. f) edge1 edge2 →
    IfSome feed0 (λ f. edge2.feed ≡ Some (behind_moment (behind_kind g (history g ts) e.event.kind (feed_after g f ts))))
feed-more g None edge edge1 edge2 ts e drawn one two = tt
feed-more g (Some f) edge edge1 edge2 ts e drawn one two =
    let first = subst (λ (o : Option Feed). IfSome o (λ f. edge1.feed ≡ Some (behind_moment f))) drawn.1 one.feed in
    subst (λ (o : Option Feed). IfSome o (λ f. edge2.feed ≡ Some f)) first two.feed

-- ---- the journal

-- a session that is handed its replies has none left
outbox_after-own : (own : Option ℕ) (s : ℕ) (e : Entry) (old : ℕ → List (ℕ × Reply)) → own ≡ Some s → outbox_after own e old s ≡ []
outbox_after-own own s e old is =
    ap (λ (o : Option ℕ). outbox_after o e old s) is
    ∙ ap (λ (b : Bool). if b then [] else old s ++ replies_in e.actions s) (eq-eqb s s refl)

pub kept-more : (g : Ground) (desk desk1 : DeskView) (ts : List Turn) (step : Step) (earlier : List (ℕ × Reply)) (e : Entry) →
    Keeps g desk ts →
    IfSome desk.journal (λ J. Appends J desk desk1 earlier e) →
    own_session e.event.kind ≡ Some g.session →
    Keeps g desk1 (turn_of step earlier e ∷ ts)
kept-more g desk desk1 ts step earlier e kept added named = by_journal g.start.desk.journal kept where
  by_journal : (o : Option (List Entry)) →
      IfSome o (λ J. (desk.journal ≡ Some (history g ts ++ J)) × (desk.outbox g.session ≡ []) × AllByRecursion (λ (t : Turn). t.earlier ≡ []) ts) →
      IfSome o (λ J. (desk1.journal ≡ Some ((e ∷ history g ts) ++ J)) × (desk1.outbox g.session ≡ []) × AllByRecursion (λ (t : Turn). t.earlier ≡ []) (turn_of step earlier e ∷ ts))
  by_journal None h = tt
  by_journal (Some J) h =
      let a = subst (λ (o : Option (List Entry)). IfSome o (λ J. Appends J desk desk1 earlier e)) h.0 added in (
        a.journal,
        a.outbox g.session ∙ outbox_after-own (own_session e.event.kind) g.session e desk.outbox named,
        (a.earlier ∙ ap (λ (o : Option ℕ). option_map_or desk.outbox o []) named ∙ h.1, h.2),
      )

-- the journal stands where nothing was submitted
pub kept-same : (g : Ground) (desk desk1 : DeskView) (ts : List Turn) → Keeps g desk ts → SameDesk desk desk1 → Keeps g desk1 ts
kept-same g desk desk1 ts kept same = by_journal g.start.desk.journal kept where
  by_journal : (o : Option (List Entry)) →
      IfSome o (λ J. (desk.journal ≡ Some (history g ts ++ J)) × (desk.outbox g.session ≡ []) × AllByRecursion (λ (t : Turn). t.earlier ≡ []) ts) →
      IfSome o (λ J. (desk1.journal ≡ Some (history g ts ++ J)) × (desk1.outbox g.session ≡ []) × AllByRecursion (λ (t : Turn). t.earlier ≡ []) ts)
  by_journal None h = tt
  by_journal (Some J) h = (same.journal ∙ h.0, same.outbox g.session ∙ h.1, h.2)

pub grew-of : (g : Ground) (desk : DeskView) (ts : List Turn) → Keeps g desk ts → Grew g desk ts
grew-of g desk ts kept = by_journal g.start.desk.journal kept where
  by_journal : (o : Option (List Entry)) →
      IfSome o (λ J. (desk.journal ≡ Some (history g ts ++ J)) × (desk.outbox g.session ≡ []) × AllByRecursion (λ (t : Turn). t.earlier ≡ []) ts) →
      IfSome o (λ J. (desk.journal ≡ Some (history g ts ++ J)) × AllByRecursion (λ (t : Turn). t.earlier ≡ []) ts)
  by_journal None h = tt
  by_journal (Some J) h = (h.0, h.2)

journal-of : (g : Ground) (desk : DeskView) (ts : List Turn) → Keeps g desk ts → IfSome g.start.desk.journal (λ J. desk.journal ≡ Some (history g ts ++ J))
journal-of g desk ts kept = by_journal g.start.desk.journal kept where
  by_journal : (o : Option (List Entry)) →
      IfSome o (λ J. (desk.journal ≡ Some (history g ts ++ J)) × (desk.outbox g.session ≡ []) × AllByRecursion (λ (t : Turn). t.earlier ≡ []) ts) →
      IfSome o (λ J. desk.journal ≡ Some (history g ts ++ J))
  by_journal None h = tt
  by_journal (Some J) h = h.0

-- an entry more for which the desk vouches
pub vouched-more : (g : Ground) (vouches : Bool) (desk : DeskView) (ts : List Turn) (step : Step) (earlier : List (ℕ × Reply)) (e : Entry) →
    AreVouched g ts → g.start.vouches ≡ vouches → desk.options ≡ g.start.desk.options →
    (vouches ≡ true → IsVouched desk.options earlier e) → AreVouched g (turn_of step earlier e ∷ ts)
vouched-more g vouches desk ts step earlier e before same options vouched = λ v.
    (subst (λ (o : Options). IsVouched o earlier e) options (vouched (sym same ∙ v)), before v)

-- a step more with the share
pub shares-more : (g : Ground) (desk desk1 : DeskView) (ts : List Turn) (step : Step) (earlier : List (ℕ × Reply)) (e : Entry) →
    Shares g desk ts → RisesBy 1 desk.share desk1.share → Shares g desk1 (turn_of step earlier e ∷ ts)
shares-more g desk desk1 ts step earlier e before more =
    let sum : length (history g ts) + 1 ≡ suc (length (history g ts)) = omega arith in
    subst (λ (n : ℕ). RisesBy n g.start.desk.share desk1.share) sum (rises-more (length (history g ts)) 1 g.start.desk.share desk.share desk1.share before more)

-- ---- a turn

-- where nothing was submitted
pub after-same : (g : Ground) (state : ControlSession) (desk desk1 : DeskView) (ts : List Turn) → StandsAfter g state desk ts → SameDesk desk desk1 → StandsAfter g state desk1 ts
after-same g state desk desk1 ts a same =
    record {
      over = a.over;
      kept = kept-same g desk desk1 ts a.kept same;
      refused = omega (arith, a.refused, same.refused);
      vouched = a.vouched;
      share = rises-same (length (history g ts)) g.start.desk.share desk.share desk1.share a.share same.share;
    }

-- where an entry was
after-more : (g : Ground) (vouches : Bool) (state state1 : ControlSession) (edge edge1 : EdgeView) (desk desk1 : DeskView) (sent : Option (List ℕ))
    (ts : List Turn) (pieces : Pieces) (step : Step) (earlier : List (ℕ × Reply)) (e : Entry) (k : EventKind) →
    Asking g state edge desk sent ts pieces e.event.kind →
    g.start.vouches ≡ vouches →
    Entered vouches edge edge1 desk desk1 earlier e k →
    state1.is_over ≡ is_end e.decision →
    StandsAfter g state1 desk1 (turn_of step earlier e ∷ ts)
after-more g vouches state state1 edge edge1 desk desk1 sent ts pieces step earlier e k a same n over =
    record {
      over = over;
      kept = kept-more g desk desk1 ts step earlier e a.after.kept n.appended a.named;
      refused = omega (arith, a.after.refused, n.unrefused);
      vouched = vouched-more g vouches desk ts step earlier e a.after.vouched same a.ground.options n.vouched;
      share = shares-more g desk desk1 ts step earlier e a.after.share n.share;
    }

-- it is the next of what is seen
seen-more : (g : Ground) (vouches : Bool) (state : ControlSession) (edge edge1 edge2 : EdgeView) (desk desk1 : DeskView) (sent : Option (List ℕ))
    (ts : List Turn) (pieces : Pieces) (step : Step) (earlier : List (ℕ × Reply)) (e : Entry) (k : EventKind) →
    Asking g state edge desk sent ts pieces e.event.kind →
    Entered vouches edge edge1 desk desk1 earlier e k →
    edge1.faults ≤ edge2.faults →
    IsSeen g (turn_of step earlier e ∷ ts) edge2 desk1.faults
seen-more g vouches state edge edge1 edge2 desk desk1 sent ts pieces step earlier e k a n count =
    record {
      fed = fed-more g g.start.edge.feed edge.feed ts e a.fed a.feed n.moment;
      edge = counted-on (all_missing g ts + missing_in g (history g ts) e.event.kind) g.start.edge.faults edge.faults edge2.faults a.missing (omega (arith, n.taken.count, count));
      storage = counted-on (all_failed ts + failed_in e.event.kind) g.start.desk.faults desk.faults desk1.faults a.failed n.count;
    }

-- an event was submitted and answered
pub spoken-is : (g : Ground) (vouches : Bool) (state state1 : ControlSession) (edge edge1 edge2 : EdgeView) (desk desk1 : DeskView) (sent sent1 : Option (List ℕ))
    (ts : List Turn) (pieces more : Pieces) (step : Step) (earlier : List (ℕ × Reply)) (e : Entry) (k : EventKind) →
    Asking g state edge desk sent ts pieces k →
    g.start.vouches ≡ vouches →
    Entered vouches edge edge1 desk desk1 earlier e k →
    Takes (λ f. f) edge1 edge2 →
    Knows g state1 (e ∷ history g ts) →
    state1.is_over ≡ is_end e.decision →
    Writes sent sent1 (piece_text more) →
    IsPaused (piece_delays more) edge1.paused edge2.paused →
    Speaking g state1 edge2 desk1 sent1 (turn_of step earlier e ∷ ts) (pieces ++ more)
spoken-is g vouches state state1 edge edge1 edge2 desk desk1 sent sent1 ts pieces more step earlier e k asking same n two knows over wrote paused =
    let a = subst (Asking g state edge desk sent ts pieces) (sym n.kind) asking in
    let after = after-more g vouches state state1 edge edge1 desk desk1 sent ts pieces step earlier e k a same n over in
    record {
      seen = seen-more g vouches state edge edge1 edge2 desk desk1 sent ts pieces step earlier e k a n two.count;
      feed = feed-more g g.start.edge.feed edge edge1 edge2 ts e a.feed n.taken two;
      known = knows;
      ground = record {
        meaning = two.meaning ∙ n.taken.meaning ∙ a.ground.meaning;
        options = n.options ∙ a.ground.options;
        files = n.files ∙ a.ground.files;
        journal = journal-of g desk1 (turn_of step earlier e ∷ ts) after.kept;
      };
      after = after;
      written = wrote-pieces g.start.sent sent sent1 (greeting_of g) pieces more a.written wrote;
      paused = paused-pieces g.start.edge.paused edge.paused edge1.paused edge2.paused pieces more a.paused n.unpaused paused;
    }

-- an event was submitted, and a part of what is due was said
pub front-after : (g : Ground) (vouches : Bool) (state state1 : ControlSession) (edge edge1 edge2 : EdgeView) (desk desk1 : DeskView) (sent sent1 : Option (List ℕ))
    (ts : List Turn) (pieces more : Pieces) (step : Step) (earlier : List (ℕ × Reply)) (e : Entry) (k : EventKind) →
    Asking g state edge desk sent ts pieces k →
    g.start.vouches ≡ vouches →
    Entered vouches edge edge1 desk desk1 earlier e k →
    edge1.faults ≤ edge2.faults →
    state1.session ≡ state.session →
    state1.is_over ≡ is_end e.decision →
    SaysPieces sent sent1 edge1.paused edge2.paused [] more →
    Front g state1 edge2 desk1 sent1 (turn_of step earlier e ∷ ts) (pieces ++ more)
front-after g vouches state state1 edge edge1 edge2 desk desk1 sent sent1 ts pieces more step earlier e k asking same n two session over says =
    let a = subst (Asking g state edge desk sent ts pieces) (sym n.kind) asking in
    record {
      session = session ∙ a.known.session;
      options = n.options ∙ a.ground.options;
      seen = seen-more g vouches state edge edge1 edge2 desk desk1 sent ts pieces step earlier e k a n two;
      after = after-more g vouches state state1 edge edge1 desk desk1 sent ts pieces step earlier e k a same n over;
      written = pieces-behind g.start.sent sent sent1 g.start.edge.paused edge1.paused edge2.paused (greeting_of g) pieces more a.written
          (subst (IsPaused (piece_delays pieces) g.start.edge.paused) (sym n.unpaused) a.paused) says;
    }

-- all that is due was said, and nothing was paused since
all-said : (g : Ground) (edge edge1 : EdgeView) (sent : Option (List ℕ)) (pieces : Pieces) →
    Writes g.start.sent sent (greeting_of g ++ piece_text pieces) → IsPaused (piece_delays pieces) g.start.edge.paused edge.paused → edge1.paused ≡ edge.paused →
    SaysPieces g.start.sent sent g.start.edge.paused edge1.paused (greeting_of g) pieces
all-said g edge edge1 sent pieces wrote paused still =
    pieces-all g.start.sent sent g.start.edge.paused edge1.paused (greeting_of g) pieces wrote
    (subst (IsPaused (piece_delays pieces) g.start.edge.paused) (sym still) paused)

-- an event was not submitted
pub front-before : (g : Ground) (state : ControlSession) (edge edge1 : EdgeView) (desk desk1 : DeskView) (sent : Option (List ℕ)) (ts : List Turn) (pieces : Pieces) (k : EventKind) →
    Asking g state edge desk sent ts pieces k →
    edge.faults ≤ edge1.faults →
    edge1.paused ≡ edge.paused →
    SameDesk desk desk1 →
    Front g state edge1 desk1 sent ts pieces
front-before g state edge edge1 desk desk1 sent ts pieces k a count still same =
    record {
      session = a.known.session;
      options = same.options ∙ a.ground.options;
      seen = record {
        fed = a.fed;
        edge = counted-less (all_missing g ts) (missing_in g (history g ts) k) g.start.edge.faults edge.faults edge1.faults a.missing count;
        storage = counted-less (all_failed ts) (failed_in k) g.start.desk.faults desk.faults desk1.faults a.failed same.count;
      };
      after = after-same g state desk desk1 ts a.after same;
      written = all-said g edge edge1 sent pieces a.written a.paused still;
    }

-- the turns that were spoken, where nothing was submitted since
pub front-same : (g : Ground) (state : ControlSession) (edge edge1 : EdgeView) (desk desk1 : DeskView) (sent : Option (List ℕ)) (ts : List Turn) (pieces : Pieces) →
    Speaking g state edge desk sent ts pieces →
    edge.faults ≤ edge1.faults →
    edge1.paused ≡ edge.paused →
    SameDesk desk desk1 →
    Front g state edge1 desk1 sent ts pieces
front-same g state edge edge1 desk desk1 sent ts pieces s count still same =
    record {
      session = s.known.session;
      options = same.options ∙ s.ground.options;
      seen = record {
        fed = s.seen.fed;
        edge = counted-on (all_missing g ts) g.start.edge.faults edge.faults edge1.faults s.seen.edge count;
        storage = counted-on (all_failed ts) g.start.desk.faults desk.faults desk1.faults s.seen.storage same.count;
      };
      after = after-same g state desk desk1 ts s.after same;
      written = all-said g edge edge1 sent pieces s.written s.paused still;
    }
