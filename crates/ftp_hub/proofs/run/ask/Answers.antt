use Rattle.std.proofs.Common.{◌≡◌, refl, sym, ap, ◌∙◌, Bool, true, false, Option, Some, None}
use Rattle.std.specs.Prelude.{is_some}
use Rattle.std.specs.Option.{option_copied_mut}
use Rattle.ftp_transfer.specs.declared.job.Job.{Job}
use Rattle.ftp_events.specs.Leads.{header_to_read}
use Rattle.ftp_handlers.specs.Rooms.{need_for}
use Rattle.ftp_handlers.specs.declared.room.Need.TheVariants.{Header}
use Rattle.ftp_hub.specs.Stands.{header_for, job_for}
use Rattle.ftp_hub.proofs.Common.{HubEvent, past_of}
use Rattle.ftp_hub.proofs.Links.{header-due, header-number, lent-linked, lent-so}
use Rattle.ftp_hub.proofs.run.ask.Goals as goal

-- a header is needed where one is to be read
header-needed : (b piece : Bool) (job : Option Job) → need_for b piece job ≡ Header → b ≡ true
header-needed true piece job h = refl
header-needed false piece None h = cc
header-needed false true (Some job) h = cc
header-needed false false (Some job) h = cc

-- the header that the event is to be decided by was read from its link
pub returns-in-Some-get_mut-clause-leads : goal.returns-in-Some-get_mut-clause-leads
returns-in-Some-get_mut-clause-leads g c log e st same given has =
    let hub = c.args.hub.now in
    let k = c.args.event.now.kind in
    let n = c.in-Some.number in
    let after = c.read_proxy_header.new.source in
    let read : is_some (header_for hub k) ≡ true = header-needed _ _ (job_for hub k) (sym c.requires.fits.need ∙ sym c.need.ensures ∙ c.in-Header.is) in
    let due : header_to_read hub.options (past_of log) e.event.kind ≡ Some n =
    ap (λ (event : HubEvent). header_to_read hub.options (past_of log) event.kind) same
    ∙ header-due hub log k st
    ∙ header-number hub k n read (sym c.link_number.ensures ∙ c.in-Some.is)
    in
    rw due (record {
      header = c.read_proxy_header.result;
      before = c.in-Some-get_mut.link.now;
      after = after;
      given_is = given;
      there = sym c.get_mut.ensures.value ∙ ap option_copied_mut c.in-Some-get_mut.is;
      links = lent-so _ _ c.in-Some-get_mut.is (c.get_mut.follows.holds after);
      storage = refl {a = c.args.storage.now};
      line = c.read_proxy_header.ensures.line;
      taken = c.read_proxy_header.ensures.taken;
      unlisted = c.read_proxy_header.ensures.unlisted;
      as_listed = c.read_proxy_header.ensures.as_listed;
      last_fault = c.read_proxy_header.ensures.last_fault;
      fault_rose = c.read_proxy_header.ensures.fault_rose;
      only_reads = c.read_proxy_header.ensures.only_reads;
    })

-- every number that had a link has one
pub returns-in-Some-get_mut-clause-linked : goal.returns-in-Some-get_mut-clause-linked
returns-in-Some-get_mut-clause-linked g c n has =
    let after = c.read_proxy_header.new.source in
    lent-linked c.args.links.now (c.get_mut.follows.lender after) c.in-Some.number n after (lent-so _ _ c.in-Some-get_mut.is (c.get_mut.follows.holds after)) has
