-- What is written piece by piece.
use Rattle.std.proofs.Common.{◌≡◌, ℕ, suc, ◌+◌, ◌<◌, List, ◌∷◌, ◌++◌, length, get_or, drop, drop-cons, sym, ap, ◌∙◌, append_assoc, arith}
use Rattle.std.specs.Prelude.{Result, Ok, Err, OnOk}
use Rattle.std.specs.List.{flat_map}
use Rattle.ftp_switchboard.specs.declared.numbers.Interval.{Interval}
use Rattle.ftp_hub.specs.declared.state.HubState.{HubState}
use Rattle.ftp_hub.specs.declared.state.JobLine.{JobLine}
use Rattle.ftp_hub.specs.declared.state.QueuedLine.{QueuedLine}
use Rattle.ftp_hub.specs.declared.state.RecordLine.{RecordLine}
use Rattle.ftp_hub.specs.declared.state.SessionLine.{SessionLine}
use Rattle.ftp_hub.specs.declared.state.SlotLine.{SlotLine}
use Rattle.ftp_text.specs.declared.state_line.StateLine.TheVariants as says
use Rattle.ftp_text.specs.StateText.{with_feed, state_text}
use Rattle.ftp_text.specs.Walk.{own_slot, session_walk, walk}
use Rattle.ftp_text.proofs.WalkLemmas.{text-walk}

pub on-ok : {T E A B : Type 0} (r : Result T E) → OnOk r A → (A → B) → OnOk r B
on-ok (Ok x) a f = f a
on-ok (Err e) a f = tt

regroup-four : (o a b c d : List ℕ) → (((o ++ a) ++ b) ++ c) ++ d ≡ o ++ ((a ++ (b ++ c)) ++ d)
regroup-four o a b c d = simp append_assoc

-- four pieces, of which the last ends the line
pub four : (o a b c d p q r s : List ℕ) → p ≡ o ++ a → q ≡ p ++ b → r ≡ q ++ c → s ≡ r ++ d → s ≡ o ++ ((a ++ (b ++ c)) ++ d)
four o a b c d p q r s e f g h =
    h ∙ ap (λ (x : List ℕ). x ++ d) (g ∙ ap (λ (x : List ℕ). x ++ c) (f ∙ ap (λ (x : List ℕ). x ++ b) e)) ∙ regroup-four o a b c d

regroup-six : (o a b c d e f : List ℕ) → (((((o ++ a) ++ b) ++ c) ++ d) ++ e) ++ f ≡ o ++ ((a ++ (b ++ (c ++ (d ++ e)))) ++ f)
regroup-six o a b c d e f = simp append_assoc

-- six pieces
pub six : (o a b c d e f p q r s t u : List ℕ) → p ≡ o ++ a → q ≡ p ++ b → r ≡ q ++ c → s ≡ r ++ d → t ≡ s ++ e → u ≡ t ++ f → u ≡ o ++ ((a ++ (b ++ (c ++ (d ++ e)))) ++ f)
six o a b c d e f p q r s t u h1 h2 h3 h4 h5 h6 =
    h6
    ∙ ap (λ (x : List ℕ). x ++ f)
    (h5 ∙ ap (λ (x : List ℕ). x ++ e) (h4 ∙ ap (λ (x : List ℕ). x ++ d) (h3 ∙ ap (λ (x : List ℕ). x ++ c) (h2 ∙ ap (λ (x : List ℕ). x ++ b) h1))))
    ∙ regroup-six o a b c d e f

regroup-nine : (o a b c d e f g h i : List ℕ) → ((((((((o ++ a) ++ b) ++ c) ++ d) ++ e) ++ f) ++ g) ++ h) ++ i ≡ o ++ ((a ++ (b ++ (c ++ (d ++ (e ++ (f ++ (g ++ h))))))) ++ i)
regroup-nine o a b c d e f g h i = simp append_assoc

-- nine pieces
pub nine : (o a b c d e f g h i p q r s t u v w x : List ℕ) → p ≡ o ++ a → q ≡ p ++ b → r ≡ q ++ c → s ≡ r ++ d → t ≡ s ++ e → u ≡ t ++ f → v ≡ u ++ g → w ≡ v ++ h → x ≡ w ++ i →
    x ≡ o ++ ((a ++ (b ++ (c ++ (d ++ (e ++ (f ++ (g ++ h))))))) ++ i)
nine o a b c d e f g h i p q r s t u v w x h1 h2 h3 h4 h5 h6 h7 h8 h9 =
    h9
    ∙ ap (λ (y : List ℕ). y ++ i)
    (h8 ∙ ap (λ (y : List ℕ). y ++ h) (h7 ∙ ap (λ (y : List ℕ). y ++ g) (h6 ∙ ap (λ (y : List ℕ). y ++ f) (h5
    ∙ ap (λ (y : List ℕ). y ++ e) (h4 ∙ ap (λ (y : List ℕ). y ++ d) (h3 ∙ ap (λ (y : List ℕ). y ++ c) (h2 ∙ ap (λ (y : List ℕ). y ++ b) h1)))))))
    ∙ regroup-nine o a b c d e f g h i

-- the lists of a state, one behind the other
pub lists-written : (x : HubState) (used : List Interval) (records : List RecordLine) (sessions : List SessionLine) (slots : List SlotLine) (queued : List QueuedLine) (jobs : List JobLine) (o p q r s t : List ℕ) →
    used ≡ x.used → records ≡ x.records → sessions ≡ x.sessions → slots ≡ x.slots → queued ≡ x.queued → jobs ≡ x.jobs →
    p ≡ o ++ with_feed (says.Checkpoint x.events x.stopped) →
    q ≡ p ++ flat_map (λ i. with_feed (says.Used i)) used →
    r ≡ q ++ flat_map (λ l. with_feed (says.Record l)) records →
    s ≡ r ++ state_text (session_walk sessions slots queued) →
    t ≡ s ++ flat_map (λ j. with_feed (says.Job j)) jobs →
    t ≡ o ++ state_text (walk x)
lists-written x used records sessions slots queued jobs o p q r s t u1 u2 u3 u4 u5 u6 h1 h2 h3 h4 h5 =
    let first = with_feed (says.Checkpoint x.events x.stopped) in
    let b : List ℕ = flat_map (λ i. with_feed (says.Used i)) x.used in
    let c : List ℕ = flat_map (λ l. with_feed (says.Record l)) x.records in
    let d : List ℕ = state_text (session_walk x.sessions x.slots x.queued) in
    let e : List ℕ = flat_map (λ j. with_feed (says.Job j)) x.jobs in
    let g2 : q ≡ p ++ b = h2 ∙ ap (λ (l : List Interval). p ++ flat_map (λ i. with_feed (says.Used i)) l) u1 in
    let g3 : r ≡ q ++ c = h3 ∙ ap (λ (l : List RecordLine). q ++ flat_map (λ i. with_feed (says.Record i)) l) u2 in
    let g4 : s ≡ r ++ d = h4 ∙ (λ i. r ++ state_text (session_walk (u3 i) (u4 i) (u5 i))) in
    let g5 : t ≡ s ++ e = h5 ∙ ap (λ (l : List JobLine). s ++ flat_map (λ i. with_feed (says.Job i)) l) u6 in
    g5
    ∙ ap (λ (y : List ℕ). y ++ e) (g4 ∙ ap (λ (y : List ℕ). y ++ d) (g3 ∙ ap (λ (y : List ℕ). y ++ c) (g2 ∙ ap (λ (y : List ℕ). y ++ b) h1)))
    ∙ regroup-lists o first b c d e
    ∙ ap (λ (y : List ℕ). o ++ y) (sym (text-walk x))
  where
    regroup-lists : (o a b c d e : List ℕ) → ((((o ++ a) ++ b) ++ c) ++ d) ++ e ≡ o ++ (a ++ (b ++ (c ++ (d ++ e))))
    regroup-lists o a b c d e = simp append_assoc

-- the item at a place, and those behind it
pub drop-item : {A : Type 0} (l : List A) (i : ℕ) (x : A) → i < length l → x ≡ get_or l i x → drop i l ≡ x ∷ drop (i + 1) l
drop-item l i x lt is =
    let next : suc i ≡ i + 1 = omega arith in
    drop-cons l i x lt ∙ (λ j. sym is j ∷ drop (next j) l)

-- a session more
pub session-written : (s : SessionLine) (sessions rest : List SessionLine) (slots slots_left : List SlotLine) (queued queued_left : List QueuedLine) (o p q : List ℕ) →
    sessions ≡ s ∷ rest → p ≡ o ++ with_feed (says.Session s) → q ++ state_text (session_walk rest slots_left queued_left) ≡ p ++ state_text (own_slot s.session (session_walk rest) slots queued) →
    q ++ state_text (session_walk rest slots_left queued_left) ≡ o ++ state_text (session_walk sessions slots queued)
session-written s sessions rest slots slots_left queued queued_left o p q is h own =
    own
    ∙ ap (λ (y : List ℕ). y ++ state_text (own_slot s.session (session_walk rest) slots queued)) h
    ∙ append_assoc o (with_feed (says.Session s)) (state_text (own_slot s.session (session_walk rest) slots queued))
    ∙ ap (λ (l : List SessionLine). o ++ state_text (session_walk l slots queued)) (sym is)

regroup-job : (o a b c d e f g : List ℕ) → (((((o ++ a) ++ b) ++ c) ++ (d ++ e)) ++ f) ++ g ≡ o ++ ((a ++ (b ++ (c ++ (d ++ (e ++ f))))) ++ g)
regroup-job o a b c d e f g = simp append_assoc

-- six pieces, of which one is two
pub job-written : (o a b c d e f g p q r s t u : List ℕ) → p ≡ o ++ a → q ≡ p ++ b → r ≡ q ++ c → s ≡ r ++ (d ++ e) → t ≡ s ++ f → u ≡ t ++ g → u ≡ o ++ ((a ++ (b ++ (c ++ (d ++ (e ++ f))))) ++ g)
job-written o a b c d e f g p q r s t u h1 h2 h3 h4 h5 h6 =
    h6
    ∙ ap (λ (x : List ℕ). x ++ g)
    (h5 ∙ ap (λ (x : List ℕ). x ++ f) (h4 ∙ ap (λ (x : List ℕ). x ++ (d ++ e)) (h3 ∙ ap (λ (x : List ℕ). x ++ c) (h2 ∙ ap (λ (x : List ℕ). x ++ b) h1))))
    ∙ regroup-job o a b c d e f g
