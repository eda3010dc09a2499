-- Texts that are put behind a text, one after the other.
use Rattle.std.proofs.Common.{◌≡◌, ℕ, List, ◌++◌, append_assoc, ap, ◌∙◌}

-- two texts put one after the other
pub appended-2 : (t t1 t2 a b : List ℕ) → t1 ≡ t ++ a → t2 ≡ t1 ++ b → t2 ≡ t ++ (a ++ b)
appended-2 t t1 t2 a b e1 e2 = e2 ∙ ap (λ (x : List ℕ). x ++ b) e1 ∙ append_assoc t a b

-- three texts put one after the other
pub appended-3 : (t t1 t2 t3 a b c : List ℕ) → t1 ≡ t ++ a → t2 ≡ t1 ++ b → t3 ≡ t2 ++ c → t3 ≡ t ++ ((a ++ b) ++ c)
appended-3 t t1 t2 t3 a b c e1 e2 e3 = appended-2 t t2 t3 (a ++ b) c (appended-2 t t1 t2 a b e1 e2) e3

-- five texts put one after the other
pub appended-5 : (t t1 t2 t3 t4 t5 a b c d e : List ℕ) → t1 ≡ t ++ a → t2 ≡ t1 ++ b → t3 ≡ t2 ++ c → t4 ≡ t3 ++ d → t5 ≡ t4 ++ e →
    t5 ≡ t ++ ((((a ++ b) ++ c) ++ d) ++ e)
appended-5 t t1 t2 t3 t4 t5 a b c d e e1 e2 e3 e4 e5 =
    appended-3 t t3 t4 t5 ((a ++ b) ++ c) d e (appended-3 t t1 t2 t3 a b c e1 e2 e3) e4 e5

-- seven texts put one after the other
pub appended-7 : (t t1 t2 t3 t4 t5 t6 t7 a b c d e f g : List ℕ) →
    t1 ≡ t ++ a → t2 ≡ t1 ++ b → t3 ≡ t2 ++ c → t4 ≡ t3 ++ d → t5 ≡ t4 ++ e → t6 ≡ t5 ++ f → t7 ≡ t6 ++ g →
    t7 ≡ t ++ ((((((a ++ b) ++ c) ++ d) ++ e) ++ f) ++ g)
appended-7 t t1 t2 t3 t4 t5 t6 t7 a b c d e f g e1 e2 e3 e4 e5 e6 e7 =
    appended-3 t t5 t6 t7 ((((a ++ b) ++ c) ++ d) ++ e) f g (appended-5 t t1 t2 t3 t4 t5 a b c d e e1 e2 e3 e4 e5) e6 e7
