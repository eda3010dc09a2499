use Rattle.std.proofs.Common.{◌≡◌, ◌≢◌, ℕ, map, List, [], ◌∷◌, length, Option, Some, None, refl, sym, subst, arith}
use Rattle.std.specs.Prelude.{string_bytes}
use Rattle.ftp_base.proofs.Items.{items-behind}
use Rattle.ftp_serve.specs.declared.command.Command.{Command}
use Rattle.ftp_serve.specs.declared.command.Command.TheVariants.{Help, Version, Serve}
use Rattle.ftp_serve.specs.declared.service.Service.{Service}
use Rattle.ftp_serve.specs.Words.{Asks, AsksService}
use Rattle.ftp_serve.proofs.command.Command.of.Goals as goal

-- four words ask for nothing but a service
asked-four : (address mode lo hi : List ℕ) (command : Command) → Asks (address ∷ mode ∷ lo ∷ hi ∷ []) command → (service : Service) × AsksService mode lo hi None service
asked-four address mode lo hi Help asks = absurd asks
asked-four address mode lo hi Version asks = absurd asks
asked-four address mode lo hi (Serve service) asks = (service, asks)

-- nor do five
asked-five : (address mode lo hi every : List ℕ) (command : Command) → Asks (address ∷ mode ∷ lo ∷ hi ∷ every ∷ []) command → (service : Service) × AsksService mode lo hi (Some every) service
asked-five address mode lo hi every Help asks = absurd asks
asked-five address mode lo hi every Version asks = absurd asks
asked-five address mode lo hi every (Serve service) asks = (service, asks)

-- so many words ask for nothing
unasked : {X : Type 0} (f : X → List ℕ) (words : List X) → length words ≢ 1 → length words ≢ 4 → length words ≢ 5 → (command : Command) → Asks (map f words) command → ⊥
unasked f [] one four five command asks = asks
unasked f (a ∷ []) one four five command asks = one refl
unasked f (a ∷ b ∷ []) one four five command asks = asks
unasked f (a ∷ b ∷ c ∷ []) one four five command asks = asks
unasked f (a ∷ b ∷ c ∷ d ∷ []) one four five command asks = four refl
unasked f (a ∷ b ∷ c ∷ d ∷ e ∷ []) one four five command asks = five refl
unasked f (a ∷ b ∷ c ∷ d ∷ e ∷ g ∷ rest) one four five command asks = asks

pub returns-in_err-service-in-len4-clause-none : goal.returns-in_err-service-in-len4-clause-none
returns-in_err-service-in-len4-clause-none c = λ none command asks.
    let words = items-behind c.args.words.now (c.mode-item.result ∷ c.lo-item.result ∷ c.hi-item.result ∷ []) (omega (arith, c.in-len4.len_at_least, c.in-len4.len_below)) (c.mode-item.is, (c.lo-item.is, (c.hi-item.is, tt))) in
    let some =
    asked-four (string_bytes words.0) (string_bytes c.mode-item.result) (string_bytes c.lo-item.result) (string_bytes c.hi-item.result) command
    (subst (λ ws. Asks (map string_bytes ws) command) words.1 asks) in
    c.in_err-service-in-len4.ensures.none refl some.0
    (rw (c.as_bytes-in-len4.ensures.value, c.as_bytes-in-len4-2.ensures.value, c.as_bytes-in-len4-3.ensures.value) some.1)

pub returns-in_ok-service-in-len4-clause-found : goal.returns-in_ok-service-in-len4-clause-found
returns-in_ok-service-in-len4-clause-found c =
    let words = items-behind c.args.words.now (c.mode-item.result ∷ c.lo-item.result ∷ c.hi-item.result ∷ []) (omega (arith, c.in-len4.len_at_least, c.in-len4.len_below)) (c.mode-item.is, (c.lo-item.is, (c.hi-item.is, tt))) in
    subst (λ ws. Asks (map string_bytes ws) (Serve c.in_ok-service-in-len4.service)) (sym words.1)
    (rw (c.as_bytes-in-len4.ensures.value, c.as_bytes-in-len4-2.ensures.value, c.as_bytes-in-len4-3.ensures.value) at c.in_ok-service-in-len4.ensures.found)

pub returns-in_err-service-in-len5-clause-none : goal.returns-in_err-service-in-len5-clause-none
returns-in_err-service-in-len5-clause-none c = λ none command asks.
    let words = items-behind c.args.words.now (c.mode-item-then-words-lt6.result ∷ c.lo-item-then-words-lt6.result ∷ c.hi-item-then-words-lt6.result ∷ c.every-item.result ∷ [])
    (omega (arith, c.in-len5.len_at_least, c.in-len5.len_below)) (c.mode-item-then-words-lt6.is, (c.lo-item-then-words-lt6.is, (c.hi-item-then-words-lt6.is, (c.every-item.is, tt)))) in
    let some =
    asked-five (string_bytes words.0) (string_bytes c.mode-item-then-words-lt6.result) (string_bytes c.lo-item-then-words-lt6.result) (string_bytes c.hi-item-then-words-lt6.result) (string_bytes c.every-item.result) command
    (subst (λ ws. Asks (map string_bytes ws) command) words.1 asks) in
    c.in_err-service-in-len5.ensures.none refl some.0
    (rw (c.as_bytes-in-len5.ensures.value, c.as_bytes-in-len5-2.ensures.value, c.as_bytes-in-len5-3.ensures.value, c.as_bytes-in-len5-4.ensures.value) some.1)

pub returns-in_ok-service-in-len5-clause-found : goal.returns-in_ok-service-in-len5-clause-found
returns-in_ok-service-in-len5-clause-found c =
    let words = items-behind c.args.words.now (c.mode-item-then-words-lt6.result ∷ c.lo-item-then-words-lt6.result ∷ c.hi-item-then-words-lt6.result ∷ c.every-item.result ∷ [])
    (omega (arith, c.in-len5.len_at_least, c.in-len5.len_below)) (c.mode-item-then-words-lt6.is, (c.lo-item-then-words-lt6.is, (c.hi-item-then-words-lt6.is, (c.every-item.is, tt)))) in
    subst (λ ws. Asks (map string_bytes ws) (Serve c.in_ok-service-in-len5.service)) (sym words.1)
    (rw (c.as_bytes-in-len5.ensures.value, c.as_bytes-in-len5-2.ensures.value, c.as_bytes-in-len5-3.ensures.value, c.as_bytes-in-len5-4.ensures.value) at c.in_ok-service-in-len5.ensures.found)

pub returns-in_default-2-clause-none : goal.returns-in_default-2-clause-none
returns-in_default-2-clause-none c = λ none command asks.
    unasked _ c.args.words.now (omega (arith, c.in_default.len_at_least, c.in_default.len_below)) (omega (arith, c.in_default.len_at_least, c.in_default.len_below)) (omega (arith, c.in_default.len_at_least, c.in_default.len_below)) command asks

pub returns-in_default-3-clause-none : goal.returns-in_default-3-clause-none
returns-in_default-3-clause-none c = λ none command asks.
    unasked _ c.args.words.now (omega (arith, c.in_default.len_at_least)) (omega (arith, c.in_default.len_at_least)) (omega (arith, c.in_default.len_at_least)) command asks
