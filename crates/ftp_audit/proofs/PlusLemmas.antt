-- Sums of sums.
use Rattle.std.proofs.Common.{◌≡◌, sym, ◌∙◌, ap, List, [], ◌∷◌, ◌++◌, arith}
use Rattle.ftp_base.specs.declared.notice.Notice.{Notice}
use Rattle.ftp_audit.specs.declared.total.Total.{Total}
use Rattle.ftp_audit.specs.Totals.{nothing, plus, minus, told}
use Rattle.ftp_audit.specs.Heard.{told_by_all}

-- totals whose numbers are equal are equal
total-is :
    (a b : Total) → a.got_files ≡ b.got_files → a.got_bytes ≡ b.got_bytes → a.put_files ≡ b.put_files → a.put_bytes ≡ b.put_bytes →
    a.logins ≡ b.logins → a.logouts ≡ b.logouts → a ≡ b
total-is a b got_files got_bytes put_files put_bytes logins logouts =
    λ k. record { got_files = got_files k; got_bytes = got_bytes k; put_files = put_files k; put_bytes = put_bytes k; logins = logins k; logouts = logouts k }

-- nothing more
pub plus-nothing : (t : Total) → plus t nothing ≡ t
plus-nothing t = total-is (plus t nothing) t (omega arith) (omega arith) (omega arith) (omega arith) (omega arith) (omega arith)

-- on top of nothing
pub nothing-plus : (t : Total) → plus nothing t ≡ t
nothing-plus t = total-is (plus nothing t) t (omega arith) (omega arith) (omega arith) (omega arith) (omega arith) (omega arith)

-- three together
pub plus-assoc : (a b c : Total) → plus (plus a b) c ≡ plus a (plus b c)
plus-assoc a b c = total-is (plus (plus a b) c) (plus a (plus b c)) (omega arith) (omega arith) (omega arith) (omega arith) (omega arith) (omega arith)

-- what one of two has above the other
pub minus-plus : (a b : Total) → minus (plus a b) a ≡ b
minus-plus a b = total-is (minus (plus a b) a) b (omega arith) (omega arith) (omega arith) (omega arith) (omega arith) (omega arith)

-- what two lists of notifications tell
pub told_by_all-append : (xs ys : List Notice) → told_by_all (xs ++ ys) ≡ plus (told_by_all xs) (told_by_all ys)
told_by_all-append [] ys = sym (nothing-plus (told_by_all ys))
told_by_all-append (x ∷ xs) ys = ap (plus (told x)) (told_by_all-append xs ys) ∙ sym (plus-assoc (told x) (told_by_all xs) (told_by_all ys))

-- the last two of three the other way round
pub plus-swap : (a b c : Total) → plus (plus a b) c ≡ plus (plus a c) b
plus-swap a b c = total-is (plus (plus a b) c) (plus (plus a c) b) (omega arith) (omega arith) (omega arith) (omega arith) (omega arith) (omega arith)
