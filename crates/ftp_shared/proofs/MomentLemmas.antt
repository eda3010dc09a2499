-- Moments that are taken one after the other.
use Rattle.std.proofs.Common.{◌≡◌, ◌∙◌, refl, ap, ℕ, ◌+◌, ◌≤◌, drop, Option, Some, None, arith}
use Rattle.std.specs.Prelude.{IfSome}
use Rattle.std.proofs.lemmas.List.{drop-drop}
use Rattle.ftp_base.specs.Edge.{EdgeView, Feed, Takes, behind_moment, next_number}
use Rattle.ftp_shared.specs.Moments.{TakesMoments, behind_moments}

same-feed : (o : Option Feed) → IfSome o (λ f. o ≡ Some (behind_moments 0 f))
same-feed None = tt
same-feed (Some f) = refl

-- none
pub takes-none : (v : EdgeView) → Takes (behind_moments 0) v v
takes-none v = record { feed = same-feed v.feed; meaning = refl; count = omega arith }

more-feed : (n m : ℕ) (o p q : Option Feed) →
    IfSome o (λ f. p ≡ Some (behind_moments n f)) → IfSome p (λ f. q ≡ Some (behind_moments m f)) →
    IfSome o (λ f. q ≡ Some (behind_moments (n + m) f))
more-feed n m None p q first next = tt
more-feed n m (Some f) p q first next =
    let at : q ≡ Some (behind_moments m (behind_moments n f)) = rw first at next in
    at ∙ ap (λ l. Some (record f { moments = l })) (drop-drop m n f.moments)

-- more of them
pub takes-more : (n m : ℕ) (a b c : EdgeView) → Takes (behind_moments n) a b → Takes (behind_moments m) b c → Takes (behind_moments (n + m)) a c
takes-more n m a b c first next = record {
  feed = more-feed n m a.feed b.feed c.feed first.feed next.feed;
  meaning = next.meaning ∙ first.meaning;
  count = omega (arith, first.count, next.count);
}

last-feed : (n at : ℕ) (o p : Option Feed) →
    IfSome o (λ f. p ≡ Some (behind_moments n f)) → IfSome p (λ f. at ≡ next_number f.moments) →
    IfSome o (λ f. at ≡ next_number (drop n f.moments))
last-feed n at None p first next = tt
last-feed n at (Some f) p first next = rw first at next

-- and a last one
pub takes-last : (n entries at : ℕ) (a b c : EdgeView) →
    Takes (behind_moments n) a b → IfSome b.feed (λ f. at ≡ next_number f.moments) → Takes behind_moment b c → entries ≤ n + 1 →
    TakesMoments a c entries at
takes-last n entries at a b c first next taken enough = record {
  before = n;
  enough = enough;
  taken = takes-more n 1 a b c first taken;
  last = last-feed n at a.feed b.feed first.feed next;
}
