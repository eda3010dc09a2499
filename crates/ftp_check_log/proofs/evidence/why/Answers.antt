use Rattle.std.proofs.Common.{List, reverse, sym, subst}
use Rattle.std.proofs.lemmas.List.{reverse-reverse}
use Rattle.ftp_events.specs.declared.entry.Entry.{Entry}
use Rattle.ftp_events.specs.Right.{IsRight}
use Rattle.ftp_check_log.specs.Evidence.{IsEvidence}
use Rattle.ftp_check_log.proofs.EvidenceLemmas.{evidence-once}
use Rattle.ftp_check_log.proofs.evidence.why.Goals as goal

pub returns-clause-only : goal.returns-clause-only
returns-clause-only c =
    let o = c.args.options.now in
    let log : List Entry = reverse c.args.log.now.entries in
    let right : IsRight o (reverse log) = subst (IsRight o) (sym (reverse-reverse c.args.log.now.entries)) c.requires.right in
    let here : IsEvidence o log c.args.k c.in_ok-evidence.field-0 = subst (λ (l : List Entry). IsEvidence o l c.args.k c.in_ok-evidence.field-0) c.as_slice.ensures c.in_ok-evidence.ensures in
    evidence-once o log c.args.k c.in_ok-evidence.field-0 right here
