use Rattle.std.proofs.Common.{rules, ◌≡◌, ◌∙◌, List, [], sym, ap}
use Rattle.std.proofs.lemmas.Iterator.{YieldsList-from_slice}
use Rattle.std.proofs.lemmas.Iterator.Search.{find_from_yields_List}
use Rattle.ftp_text.proofs.WordTables.{lent_word, word-lent}
use Rattle.ftp_text.proofs.word.word_in.Goals as goal

pub returns-in-Some : goal.returns-in-Some
returns-in-Some g c =
    sym (ap (lent_word (λ v. g.V.PartialEq.eq v c.args.value)) c.in-Some.is)
    ∙ word-lent (λ v. g.V.PartialEq.eq v c.args.value) c.args.table.now c.find.result
    (find_from_yields_List (λ row. g.V.PartialEq.eq row.1 c.args.value) _ _ _ c.find.ensures.ran (YieldsList-from_slice _ c.iter.ensures.rest) (λ row b f told. search rules))

pub returns-in-None : goal.returns-in-None
returns-in-None g c =
    sym (ap (lent_word (λ v. g.V.PartialEq.eq v c.args.value)) c.in-None.is)
    ∙ word-lent (λ v. g.V.PartialEq.eq v c.args.value) c.args.table.now c.find.result
    (find_from_yields_List (λ row. g.V.PartialEq.eq row.1 c.args.value) _ _ _ c.find.ensures.ran (YieldsList-from_slice _ c.iter.ensures.rest) (λ row b f told. search rules))
