use Rattle.std.proofs.Common.{◌≡◌, refl, ap, ◌∙◌, [], Option, Some, None, arith}
use Rattle.std.specs.Option.{option_and_then}
use Rattle.std.specs.FinMap as finmap
use Rattle.ftp_switchboard.specs.Board.{Held, key, key_cmp}
use Rattle.ftp_options.specs.declared.lockout.FailedLoginsPolicy.{FailedLoginsPolicy}
use Rattle.ftp_events.specs.Lockout.{tally}
use Rattle.ftp_hub.proofs.Common.{LoginKey, Options}
use Rattle.ftp_hub.proofs.hub.Hub.with_count.Goals as goal

-- no login has failed
none : (x : Option FailedLoginsPolicy) (o : Options) (login : LoginKey) → None ≡ option_and_then (λ p. tally o p [] login) x
none None o login = refl
none (Some p) o login = refl

-- no table has anything
pub returns-clause-stands : goal.returns-clause-stands
returns-clause-stands c =
    record {
      right = tt;
      acted = tt;
      tables = record {
        sessions = λ s. rw c.new.ensures.empty refl;
        live = c.new.ensures.len;
        jobs = λ s. rw c.new-2.ensures.empty refl;
        running = c.new-2.ensures.len;
        numbers = λ n. c.new-3.ensures n;
        stopped = refl;
        failures = λ login. c.no_failures-failures.ensures.none login ∙ none c.args.options.lockout c.args.options login;
        holders = λ a p. ap (λ (held : Held). finmap.get held (key a p)) c.new-board.ensures.free ∙ finmap.get-empty key_cmp (key a p);
      };
      counted = omega arith;
    }
