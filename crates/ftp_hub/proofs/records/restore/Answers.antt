use Rattle.std.proofs.Common.{sym, subst}
use Rattle.ftp_lockout.specs.Logins.{IsKey}
use Rattle.ftp_hub.proofs.Recording.{record-is-key}
use Rattle.ftp_hub.proofs.records.restore.Goals as goal

-- the key of the line is one of the policy
pub restore-requires : goal.restore-requires
restore-requires c =
    record {
      key =
          subst (IsKey c.args.cache.now.policy.block_by) (sym c.key_with-key.ensures.key)
          (record-is-key c.args.cache.now.policy.block_by c.args.line c.requires.made c.key_with-key.ensures.within);
    }
