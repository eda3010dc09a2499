-- The decisions with which a session and its job go on, and those that end it.
use Rattle.std.proofs.Common.{◌≡◌, refl, ap, ◌∙◌, ℕ, ◌-◌, true, false, cond, Option, None}
use Rattle.std.specs.Prelude.{unwrap_or}
use Rattle.ftp_hub.proofs.Common.{Decision, Pending, live_after, lives_on, new_number}
use Rattle.ftp_events.specs.declared.decision.Life.{Life}
use Rattle.ftp_events.specs.declared.decision.Life.TheVariants.{Goes, Ends}
use Rattle.ftp_events.specs.declared.decision.SlotMove.{SlotMove}
use Rattle.ftp_events.specs.declared.decision.SlotMove.TheVariants.{Keeps, Empties, EmptiesWaiting, Awaits, Connects, Expires}
use Rattle.ftp_events.specs.Classes.{ends, is_ending, is_stop, life, slot_move}
use Rattle.ftp_events.specs.Session.{live_by_life, told_of_life}
use Rattle.ftp_events.specs.Slot.{Lane, starts_by}
use Rattle.ftp_laws.proofs.ClassLemmas.{ending-empties}
use Rattle.ftp_laws.proofs.StopLemmas.{lives-plain}
use Rattle.ftp_laws.proofs.BalanceLemmas.{finishes}
use Rattle.ftp_handlers.specs.Handlers.{goes_on, is_quiet}
use Rattle.ftp_hub.proofs.Running.{IsIdle}

-- a decision that neither opens nor ends the session, and with which no job starts or ends
pub record LivesOn (d : Decision) : Type 0 where
  pub lives : lives_on d ≡ true
  pub as_many : (n : ℕ) → live_after d n ≡ n
  pub idle : IsIdle d

-- every quiet decision is one
pub goes_on-lives : (d : Decision) → goes_on d ≡ true → LivesOn d
goes_on-lives d h = go (life d) refl (slot_move d) refl h
  where
    quiet :
        life d ≡ Goes → (m : SlotMove) → slot_move d ≡ m → finishes m ≡ false →
        ((n : Option ℕ) (queued : Option Pending) (l : Lane) → starts_by m n queued l ≡ None) →
        LivesOn d
    quiet goes m move unfinished starts =
        let lives : lives_on d ≡ true = ap (λ (l : Life). unwrap_or (told_of_life l) true) goes in
        record {
          lives = lives;
          as_many = λ n. ap (λ b. cond b 0 (live_by_life (life d) n)) (lives-plain d lives) ∙ ap (λ (l : Life). live_by_life l n) goes;
          idle = record {
            unfinished = ap finishes move ∙ unfinished;
            starts = λ k queued l. ap (λ (x : SlotMove). starts_by x (new_number k d) queued l) move ∙ starts (new_number k d) queued l;
          };
        }

    go : (l : Life) → life d ≡ l → (m : SlotMove) → slot_move d ≡ m → is_quiet l m ≡ true → LivesOn d
    go Goes goes Keeps move q = quiet goes Keeps move refl (λ n queued l. refl)
    go Goes goes Empties move q = quiet goes Empties move refl (λ n queued l. refl)
    go Goes goes EmptiesWaiting move q = quiet goes EmptiesWaiting move refl (λ n queued l. refl)
    go Goes goes (Awaits port) move q = quiet goes (Awaits port) move refl (λ n queued l. refl)
    go Goes goes Connects move q = quiet goes Connects move refl (λ n queued l. refl)
    go Goes goes Expires move q = quiet goes Expires move refl (λ n queued l. refl)
    go l goes m move q = cc

-- a decision that ends the session, and with which no job starts or ends
pub record EndsLife (d : Decision) : Type 0 where
  pub ended : lives_on d ≡ false
  pub one_less : (n : ℕ) → live_after d n ≡ n - 1
  pub idle : IsIdle d

-- every ending of one session is one
pub ending-ends : (d : Decision) → is_stop d ≡ false → is_ending d ≡ true → EndsLife d
ending-ends d plain h = go (life d) refl h
  where
    go : (l : Life) → life d ≡ l → ends l ≡ true → EndsLife d
    go Ends end e =
        let empties : slot_move d ≡ Empties = ending-empties d end in
        record {
          ended = ap (λ (l : Life). unwrap_or (told_of_life l) true) end;
          one_less = λ n. ap (λ b. cond b 0 (live_by_life (life d) n)) plain ∙ ap (λ (l : Life). live_by_life l n) end;
          idle = record {
            unfinished = ap finishes empties;
            starts = λ k queued l. ap (λ (x : SlotMove). starts_by x (new_number k d) queued l) empties;
          };
        }
    go l end e = cc
