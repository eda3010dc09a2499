-- Options and their settings.
use Rattle.std.specs.Coded.{le_prop}
use Rattle.std.proofs.Common.{◌≡◌, ◌≤◌, false, subst}
use Rattle.ftp_options.specs.declared.options.Options.{Options}
use Rattle.ftp_options.specs.Builder.{settings_of}
use Rattle.ftp_options.specs.Modes.{is_legacy}
use Rattle.ftp_options.specs.Settings.{Settings}

-- options with these settings
made : (s : Settings) → s.lo ≤ s.hi → (is_legacy s.mode ≡ false → 1 ≤ s.lo) → Options
made s ordered listens = record {
  mode = s.mode;
  lo = s.lo;
  hi = s.hi;
  host = s.host;
  active_passive = s.active_passive;
  idle_ms = s.idle_ms;
  lockout = s.lockout;
  features = s.features;
  site_md5 = s.site_md5;
  tls_flags = s.tls_flags;
  collect_metrics = s.collect_metrics;
  greeting = s.greeting;
  ordered = ordered;
  listens = listens;
}

-- the settings determine them
pub options-once : (o p : Options) → settings_of o ≡ settings_of p → o ≡ p
unfolding made
options-once o p e = subst (λ (s : Settings). (x : s.lo ≤ s.hi) (y : is_legacy s.mode ≡ false → 1 ≤ s.lo) → o ≡ made s x y) e same p.ordered p.listens where
  same : (x : o.lo ≤ o.hi) (y : is_legacy o.mode ≡ false → 1 ≤ o.lo) → o ≡ made (settings_of o) x y
  same x y = λ k. made (settings_of o) (le_prop o.ordered x k) (λ shared. le_prop (o.listens shared) (y shared) k)
