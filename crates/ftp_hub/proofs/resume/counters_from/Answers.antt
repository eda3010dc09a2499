use Rattle.std.proofs.Common.{refl, sym, ap, ◌∙◌, Bool}
use Rattle.std.specs.Prelude.{cond}
use Rattle.std.specs.HashMap as map
use Rattle.ftp_hub.proofs.resume.counters_from.Goals as goal

-- the live sessions are counted where counts are kept
pub returns-then-options : goal.returns-then-options
returns-then-options c =
    record {
      session = c.with_sessions.ensures.session
          ∙ c.len.ensures.len
          ∙ sym (ap (λ (b : Bool). cond b (map.hash_map_len c.args.sessions.now) 0) c.if-options.true);
      others = c.with_sessions.ensures.others c.args.options.now;
    }

-- and else nothing is
pub returns-else-options : goal.returns-else-options
returns-else-options c =
    let none = c.new.ensures.none c.args.options.now in
    record {
      session = none.session ∙ sym (ap (λ (b : Bool). cond b (map.hash_map_len c.args.sessions.now) 0) c.if-options.false);
      others = record {
        session = refl;
        opened = none.opened;
        failures = none.failures;
        sent = none.sent;
        received = none.received;
        transferred = none.transferred;
        read = none.read;
        written = none.written;
        replies = none.replies;
      };
    }
