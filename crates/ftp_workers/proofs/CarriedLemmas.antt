-- What one action more asks for.
use Rattle.std.proofs.Common.{◌≡◌, refl, sym, ◌∙◌, ap, ℕ, ◌+◌, ◌<◌, Bool, true, false, ◌||◌, cond, List, take, drop, length, get_or, Option, None}
use Rattle.std.proofs.lemmas.List.Folds.{list_any_more}
use Rattle.ftp_events.specs.declared.action.Action.{Action}
use Rattle.ftp_workers.specs.Carried.{closes, is_closed}

-- what two tests take out in turn, either takes out
taken-twice : {T : Type 0} (x y : Bool) (first : Option T) → cond y None (cond x None first) ≡ cond (x || y) None first
taken-twice true true first = refl
taken-twice true false first = refl
taken-twice false true first = refl
taken-twice false false first = refl

-- the links that are left, one action more
pub closed-more :
    {T : Type 0} (actions : List Action) (i : ℕ) (a : Action) (n : ℕ) (first mid last : Option T) →
    i < length actions →
    a ≡ get_or actions i a →
    mid ≡ cond (is_closed (take i actions) n) None first →
    last ≡ cond (closes n a) None mid →
    last ≡ cond (is_closed (take (i + 1) actions) n) None first
closed-more actions i a n first mid last lt is before now =
    let cut : is_closed (take (i + 1) actions) n ≡ (is_closed (take i actions) n || closes n a) =
    list_any_more (closes n) actions i a lt ∙ ap (λ x. is_closed (take i actions) n || closes n x) (sym is) in
    now
    ∙ ap (cond (closes n a) None) before
    ∙ taken-twice (is_closed (take i actions) n) (closes n a) first
    ∙ ap (λ b. cond b None first) (sym cut)
