use Rattle.ftp_config.proofs.config.config_in.Goals as goal

pub returns-clause-said : goal.returns-clause-said
returns-clause-said c =
    record {
      users_file = c.in_ok-users_file.ensures.written;
      listen = c.in_ok-text_at.ensures.written;
      control_port = c.in_ok-proxy_control_port.ensures.written;
      mode = c.in_ok-mode.ensures.written;
      tls = c.in_ok-flag.ensures.written;
      min_port = c.in_ok-port.ensures.written;
      max_port = c.in_ok-port-2.ensures.written;
      address = c.in_ok-maybe_text_at.ensures.written;
      active = c.in_ok-flag-2.ensures.written;
      banner = c.in_ok-text_at-2.ensures.written;
      idle = c.in_ok-number.ensures.written;
      grace = c.in_ok-number-2.ensures.written;
      all = c.in_ok-number-3.ensures.written;
      of_one = c.in_ok-number-4.ensures.written;
      lockout = c.in_ok-lockout.ensures.written;
      failures = c.in_ok-number-5.ensures.written;
      forget = c.in_ok-number-6.ensures.written;
      whole = c.in_ok-flag-3.ensures.written;
      xferlog = c.in_ok-maybe_text_at-2.ensures.written;
      log = c.in_ok-maybe_text_at-3.ensures.written;
      metrics = c.in_ok-maybe_text_at-4.ensures.written;
      control = c.in_ok-maybe_text_at-5.ensures.written;
    }
