use Rattle.std.proofs.Common.{refl, sym, ap, ◌∙◌, inl, inr}
use Rattle.std.specs.Option.{option_copied_mut}
use Rattle.ftp_hub.proofs.Links.{lent-linked, lent-so}
use Rattle.ftp_hub.proofs.Pieces.{end-fits, piece-fits}
use Rattle.ftp_hub.proofs.run.run_piece.Goals as goal

-- a piece of the job moved on its link
pub returns-in-More-clause-ran : goal.returns-in-More-clause-ran
returns-in-More-clause-ran g c linked =
    let after = c.execute_piece.new.link in
    let went = c.in-More.ensures.ran.1 in
    inl (record {
      bytes = c.in-More.bytes;
      before = c.in-Some.link.now;
      after = after;
      given_is = refl;
      fits = piece-fits c.args.job c.in-More.bytes went.goes_on went.some c.in-More.ensures.ran.0 went.in_range;
      there = sym c.get_mut.ensures.value ∙ ap option_copied_mut c.in-Some.is;
      links = lent-so _ _ c.in-Some.is (c.get_mut.follows.holds after);
      went = went;
      storage_counts = c.execute_piece.ensures.storage_counts;
      link_counts = c.execute_piece.ensures.link_counts;
    })

-- its last piece ended it
pub returns-clause-ran : goal.returns-clause-ran
returns-clause-ran g c linked =
    let after = c.execute_piece.new.link in
    let ran = c.in-Ended.ensures.ran in
    inr (record {
      outcome = c.in-Ended.outcome;
      before = c.in-Some.link.now;
      after = after;
      given_is = refl;
      fits = end-fits c.args.job c.in-Ended.outcome c.in-Ended.ensures.suits ran.counted;
      there = sym c.get_mut.ensures.value ∙ ap option_copied_mut c.in-Some.is;
      links = lent-so _ _ c.in-Some.is (c.get_mut.follows.holds after);
      ran = ran;
      complete = c.in-Ended.ensures.complete;
      storage_counts = c.execute_piece.ensures.storage_counts;
      link_counts = c.execute_piece.ensures.link_counts;
    })

-- every number that had a link has one
pub returns-in-More-clause-linked : goal.returns-in-More-clause-linked
returns-in-More-clause-linked g c n has = lent-linked c.args.links.now (c.get_mut.follows.lender c.execute_piece.new.link) c.args.job.number n c.execute_piece.new.link (lent-so _ _ c.in-Some.is (c.get_mut.follows.holds c.execute_piece.new.link)) has

pub returns-clause-linked : goal.returns-clause-linked
returns-clause-linked g c n has = lent-linked c.args.links.now (c.get_mut.follows.lender c.execute_piece.new.link) c.args.job.number n c.execute_piece.new.link (lent-so _ _ c.in-Some.is (c.get_mut.follows.holds c.execute_piece.new.link)) has
