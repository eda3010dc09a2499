-- What is heard one after the other.
use Rattle.std.proofs.Common.{◌≡◌, ℕ, ◌+◌, ◌<◌, List, [], ◌∷◌, ◌++◌, Option, Some, None, ap, sym, subst, ◌∙◌, append_assoc, get_or, take, length, filter_map}
use Rattle.std.proofs.lemmas.List.{take_more}
use Rattle.std.proofs.lemmas.List.Elements.{filter_map-append}
use Rattle.ftp_base.specs.declared.notice.EventMeta.{EventMeta}
use Rattle.ftp_events.specs.declared.action.Action.{Action}
use Rattle.ftp_events.specs.Delivery.{HearsAll}

-- what is heard behind these events is heard behind what was heard before them
hears-append :
    {E : Type 0} (old mid new : Option (List (E × EventMeta))) (xs ys : List (E × EventMeta)) →
    HearsAll old mid xs →
    HearsAll mid new ys →
    HearsAll old new (xs ++ ys)
hears-append None mid new xs ys first later = tt
hears-append (Some heard) mid new xs ys first later =
    subst (λ m. HearsAll m new ys) first later ∙ ap Some (append_assoc heard xs ys)

-- one action more
pub hears-take-more :
    {E : Type 0} (told : Action → Option (E × EventMeta)) (old mid new : Option (List (E × EventMeta))) (actions : List Action) (i : ℕ) (a : Action) →
    i < length actions →
    a ≡ get_or actions i a →
    HearsAll old mid (filter_map told (take i actions)) →
    HearsAll mid new (filter_map told (a ∷ [])) →
    HearsAll old new (filter_map told (take (i + 1) actions))
hears-take-more told old mid new actions i a lt is first later =
    let cut : take (i + 1) actions ≡ take i actions ++ a ∷ [] =
    take_more actions i a lt ∙ ap (λ b. take i actions ++ b ∷ []) (sym is) in
    subst (HearsAll old new) (sym (ap (filter_map told) cut ∙ filter_map-append told (take i actions) (a ∷ [])))
    (hears-append old mid new (filter_map told (take i actions)) (filter_map told (a ∷ [])) first later)
