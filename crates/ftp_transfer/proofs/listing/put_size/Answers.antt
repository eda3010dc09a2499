use Rattle.std.proofs.Common.{◌≡◌, ◌∙◌, ◌-◌, ◌++◌, ℕ, List, length, replicate, take, min, ap, decimal, arith}
use Rattle.std.proofs.lemmas.List.{take-replicate}
use Rattle.ftp_transfer.proofs.Appended.{appended-2}
use Rattle.ftp_transfer.proofs.listing.put_size.Goals as goal

-- so many of twelve blanks as a number leaves
blanks_before : (k n : ℕ) → k ≡ min n 12 → take {A = ℕ} (12 - k) (replicate 12 32) ≡ replicate (12 - n) 32
blanks_before k n e =
    let same : 12 - k ≡ 12 - n = omega arith in
    take-replicate {X = ℕ} (12 - k) 12 32 (omega arith) ∙ ap (λ (i : ℕ). replicate {A = ℕ} i 32) same

pub returns : goal.returns
returns c =
    let shown = c.as_slice-shown.ensures.value ∙ c.in_ok-digits.ensures in
    let digits = rw shown at c.in_ok-extend_from_slice-2.ensures.items in
    let count = rw shown at c.min-blanks.ensures in
    let blanks = blanks_before c.min-blanks.result (length (decimal c.args.size)) count in
    appended-2 _ _ _ _ _ (c.in_ok-extend_from_slice.ensures.items ∙ ap (λ (x : List ℕ). c.args.text.now.items ++ x) blanks) digits
