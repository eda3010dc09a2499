-- What holds of a past, and of a session's history, after one more entry.
use Rattle.std.proofs.Common.{◌≡◌, refl, ◌∙◌, Bool, true, false, not, cond, List, [], ◌∷◌, ℕ}
use Rattle.ftp_laws.proofs.Common.{Options, Entry, is_refusal, past_of, history, concerns, opens, acts, acts_of, due, decide, IsRight, IsActed}

-- what holds of the past holds after an entry: a refused one leaves the past as it is, and with one that counts it has to hold
pub past-more :
    (P : List Entry → Type 0) (e : Entry) (log : List Entry) →
    P (past_of log) →
    (is_refusal e.decision ≡ false → P (e ∷ past_of log)) →
    P (past_of (e ∷ log))
past-more P e log before counted = go (is_refusal e.decision) refl
  where
    go : (b : Bool) → is_refusal e.decision ≡ b → P (cond (not b) (e ∷ past_of log) (past_of log))
    go true x = before
    go false x = counted x

-- what holds of a session's history holds after an entry: it has to hold where the entry begins the history, and where it goes on with it
pub history-more :
    (P : List Entry → Type 0) (o : Options) (past : List Entry) (e : Entry) (s : ℕ) →
    (opens e s ≡ true → P (e ∷ [])) →
    (concerns o past e s ≡ true → P (e ∷ history o past s)) →
    P (history o past s) →
    P (history o (e ∷ past) s)
history-more P o past e s opened own other = go (opens e s) (concerns o past e s) refl refl
  where
    go :
        (b c : Bool) → opens e s ≡ b →
        concerns o past e s ≡ c →
        P (cond b (e ∷ []) (cond c (e ∷ history o past s) (history o past s)))
    go true c x y = opened x
    go false true x y = own y
    go false false x y = other

-- an entry that counts, is decided as it has to be, and comes after a right log
pub record Comes (o : Options) (log : List Entry) (e : Entry) : Type 0 where
  pub right : IsRight o log
  pub fit : e.decision ≡ due o (past_of log) e.event.at e.event.kind e.answer
  pub counts : is_refusal e.decision ≡ false

-- what holds of the empty past, and after each such entry, holds of the past of every right log
pub right-past :
    (o : Options) (P : List Entry → Type 0) → P [] →
    ((log : List Entry) (e : Entry) → Comes o log e → P (past_of log) → P (e ∷ past_of log)) →
    (log : List Entry) → IsRight o log → P (past_of log)
unfolding decide
right-past o P first goes [] r = first
right-past o P first goes (e ∷ log) r =
    let before = right-past o P first goes log r.0 in
    past-more P e log before (λ counts. goes log e (record { right = r.0; fit = r.1; counts = counts }) before)

-- what holds of no history, of one that an opening begins, and after each such entry about the session, holds of its history in every right log
pub right-history :
    (o : Options) (s : ℕ) (P : List Entry → Type 0) → P [] →
    ((e : Entry) → opens e s ≡ true → P (e ∷ [])) →
    ((log : List Entry) (e : Entry) → Comes o log e → concerns o (past_of log) e s ≡ true →
    P (history o (past_of log) s) → P (e ∷ history o (past_of log) s)) →
    (log : List Entry) → IsRight o log → P (history o (past_of log) s)
right-history o s P first opened own log r =
    right-past o (λ past. P (history o past s)) first
    (λ log e comes before. history-more P o (past_of log) e s (opened e) (λ about. own log e comes about before) before) log r

-- the same of what is said of a right and acted log and its past together: a refused entry does nothing
pub acted-past :
    (o : Options) (P : List Entry → List Entry → Type 0) → P [] [] →
    ((log : List Entry) (e : Entry) → e.actions ≡ [] → is_refusal e.decision ≡ true → P log (past_of log) → P (e ∷ log) (past_of log)) →
    ((log : List Entry) (e : Entry) → Comes o log e → IsActed o log → e.actions ≡ acts_of o (past_of log) e →
    P log (past_of log) → P (e ∷ log) (e ∷ past_of log)) →
    (log : List Entry) → IsRight o log → IsActed o log → P log (past_of log)
unfolding decide acts
acted-past o P first refused goes [] r a = first
acted-past o P first refused goes (e ∷ log) r a = go (is_refusal e.decision) refl (acted-past o P first refused goes log r.0 a.0)
  where
    go :
        (b : Bool) → is_refusal e.decision ≡ b → P log (past_of log) →
        P (e ∷ log) (cond (not b) (e ∷ past_of log) (past_of log))
    go true x before = refused log e (a.1 ∙ rw x refl) x before
    go false x before = goes log e (record { right = r.0; fit = r.1; counts = x }) a.0 a.1 before
