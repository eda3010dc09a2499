use Rattle.std.proofs.Common.{ℕ, map, List, [], ◌∷◌, refl, subst, arith}
use Rattle.std.specs.Prelude.{string_bytes}
use Rattle.ftp_base.proofs.Items.{items-behind}
use Rattle.ftp_bench.specs.declared.command.Command.{Command}
use Rattle.ftp_bench.specs.declared.command.Command.TheVariants.{Help, Version, Talk, Move, Reserve, Append}
use Rattle.ftp_bench.specs.declared.command.Search.{Search}
use Rattle.ftp_bench.specs.declared.command.Appends.{Appends}
use Rattle.ftp_bench.specs.Words.{Asks, AsksAppends, AsksSearch}
use Rattle.ftp_bench.proofs.command.Command.of.Goals as goal

-- five words ask for nothing but reservations
asked : (name first end word rounds : List ℕ) (command : Command) → Asks (name ∷ first ∷ end ∷ word ∷ rounds ∷ []) command → (search : Search) × AsksSearch first end word rounds search
asked name first end word rounds Help asks = absurd asks
asked name first end word rounds Version asks = absurd asks
asked name first end word rounds (Talk packets) asks = absurd asks
asked name first end word rounds (Move load) asks = absurd asks
asked name first end word rounds (Append appends) asks = absurd asks
asked name first end word rounds (Reserve search) asks = (search, asks.1)

-- and four for nothing but appends
asked_four : (name way sessions rounds : List ℕ) (command : Command) → Asks (name ∷ way ∷ sessions ∷ rounds ∷ []) command → (appends : Appends) × AsksAppends way sessions rounds appends
asked_four name way sessions rounds Help asks = absurd asks
asked_four name way sessions rounds Version asks = absurd asks
asked_four name way sessions rounds (Talk packets) asks = absurd asks
asked_four name way sessions rounds (Move load) asks = absurd asks
asked_four name way sessions rounds (Reserve search) asks = absurd asks
asked_four name way sessions rounds (Append appends) asks = (appends, asks.1)

pub returns-in_err-search-in-len5-clause-none : goal.returns-in_err-search-in-len5-clause-none
returns-in_err-search-in-len5-clause-none c = λ none command asks.
    let words = items-behind c.args.words.now (c.first-item.result ∷ c.end-item.result ∷ c.word-item-then-words-lt6.result ∷ c.rounds-item-then-words-lt6.result ∷ [])
    (omega (arith, c.in-len5.len_at_least, c.in-len5.len_below)) (c.first-item.is, (c.end-item.is, (c.word-item-then-words-lt6.is, (c.rounds-item-then-words-lt6.is, tt)))) in
    let some =
    asked (string_bytes words.0) (string_bytes c.first-item.result) (string_bytes c.end-item.result) (string_bytes c.word-item-then-words-lt6.result) (string_bytes c.rounds-item-then-words-lt6.result) command
    (subst (λ ws. Asks (map string_bytes ws) command) words.1 asks) in
    c.in_err-search-in-len5.ensures.none refl some.0
    (rw (c.as_bytes-in-len5-2.ensures.value, c.as_bytes-in-len5-3.ensures.value, c.as_bytes-in-len5-4.ensures.value, c.as_bytes-in-len5-5.ensures.value) some.1)

pub returns-in_err-appends-in-len4-clause-none : goal.returns-in_err-appends-in-len4-clause-none
returns-in_err-appends-in-len4-clause-none c = λ none command asks.
    let words = items-behind c.args.words.now (c.way-item.result ∷ c.sessions-item.result ∷ c.rounds-item-then-words-lt5.result ∷ [])
    (omega (arith, c.in-len4.len_at_least, c.in-len4.len_below)) (c.way-item.is, (c.sessions-item.is, (c.rounds-item-then-words-lt5.is, tt))) in
    let some =
    asked_four (string_bytes words.0) (string_bytes c.way-item.result) (string_bytes c.sessions-item.result) (string_bytes c.rounds-item-then-words-lt5.result) command
    (subst (λ ws. Asks (map string_bytes ws) command) words.1 asks) in
    c.in_err-appends-in-len4.ensures.none refl some.0
    (rw (c.as_bytes-in-len4-2.ensures.value, c.as_bytes-in-len4-3.ensures.value, c.as_bytes-in-len4-4.ensures.value) some.1)
