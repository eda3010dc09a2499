use Rattle.std.proofs.Common.{refl, sym, ap, ◌∙◌}
use Rattle.std.specs.Option.{option_copied_mut}
use Rattle.ftp_hub.proofs.Links.{lent-linked, lent-so}
use Rattle.ftp_hub.proofs.Pieces.{end-fits}
use Rattle.ftp_hub.proofs.run.run_job.Goals as goal

-- the job was run on its link
pub returns-in-Some-clause-ran : goal.returns-in-Some-clause-ran
returns-in-Some-clause-ran g c linked =
    let after = c.execute.new.link in
    record {
      outcome = c.execute.result;
      before = c.in-Some.link.now;
      after = after;
      given_is = refl;
      fits = end-fits c.args.job c.execute.result c.execute.ensures.suits c.execute.ensures.ran.counted;
      there = sym c.get_mut.ensures.value ∙ ap option_copied_mut c.in-Some.is;
      links = lent-so _ _ c.in-Some.is (c.get_mut.follows.holds after);
      ran = c.execute.ensures.ran;
      complete = c.execute.ensures.complete;
      storage_counts = c.execute.ensures.storage_counts;
      link_counts = c.execute.ensures.link_counts;
    }

-- every number that had a link has one
pub returns-in-Some-clause-linked : goal.returns-in-Some-clause-linked
returns-in-Some-clause-linked g c n has = lent-linked c.args.links.now (c.get_mut.follows.lender c.execute.new.link) c.args.job.number n c.execute.new.link (lent-so _ _ c.in-Some.is (c.get_mut.follows.holds c.execute.new.link)) has
