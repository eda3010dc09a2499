-- Hubs that tell a state, and stand for the logs of which it is the state.
use Rattle.std.proofs.Common.{◌≡◌, refl, sym, ◌∙◌, ℕ, List, Option, Some, None, arith}
use Rattle.ftp_laws.proofs.Cases.{by_test}
use Rattle.ftp_laws.proofs.GrantLemmas.{holder-legacy}
use Rattle.ftp_laws.proofs.HoldEndLemmas.{waits-on, on-waits}
use Rattle.ftp_laws.proofs.HoldLemmas.{holder-waits}
use Rattle.ftp_laws.proofs.PortLemmas.{waits-holds}
use Rattle.ftp_laws.specs.Holds.{WaitsOn}
use Rattle.ftp_hub.proofs.Common.{Entry, Hub, IsActed, IsRight, Options, Stands, V4, holder, holder_at, is_legacy, past_of}
use Rattle.ftp_hub.specs.declared.state.HubState.{HubState}
use Rattle.ftp_hub.specs.State.{HoldsAreTold, IsState, TellsState, WaitsIn}

-- what a hub tells is the state of each log that it stands for
pub state-told : (hub : Hub) (log : List Entry) (x : HubState) → TellsState hub x → Stands hub log → IsState hub.options log x
state-told hub log x t st =
    record {
      sessions = λ s. sym (t.sessions s) ∙ st.tables.sessions s;
      live = sym t.live ∙ st.tables.live;
      jobs = λ s. sym (t.jobs s) ∙ st.tables.jobs s;
      running = sym t.running ∙ st.tables.running;
      numbers = λ n. sym (t.numbers n) ∙ st.tables.numbers n;
      failures = λ key. sym (t.failures key) ∙ st.tables.failures key;
      stopped = sym t.stopped ∙ st.tables.stopped;
      events = omega (arith, t.events, st.counted);
    }

-- options of which each value of one is that of the other
same-values : (x y : Option ℕ) → ((s : ℕ) → x ≡ Some s → y ≡ Some s) → ((s : ℕ) → y ≡ Some s → x ≡ Some s) → x ≡ y
same-values None None to from = refl
same-values (Some s) y to from = sym (to s refl)
same-values None (Some s) to from = from s refl

-- by the state a session waits as it does by its log
pub waits-told : (o : Options) (log : List Entry) (x : HubState) (s a p : ℕ) → IsState o log x → WaitsIn x s a p → WaitsOn o (past_of log) s (V4 a) p
waits-told o log x s a p is w = (w.0, sym (is.sessions s) ∙ w.1, w.2, w.3)

told-waits : (o : Options) (log : List Entry) (x : HubState) (s a p : ℕ) → IsState o log x → WaitsOn o (past_of log) s (V4 a) p → WaitsIn x s a p
told-waits o log x s a p is w = (w.0, is.sessions s ∙ w.1, w.2, w.3)

-- a hub that tells the state of a log stands for that log
pub stands-told : (hub : Hub) (log : List Entry) (x : HubState) → IsRight hub.options log → IsActed hub.options log → IsState hub.options log x → TellsState hub x → HoldsAreTold hub x → Stands hub log
stands-told hub log x right acted is t holds =
    record {
      right = right;
      acted = acted;
      tables = record {
        sessions = λ s. t.sessions s ∙ is.sessions s;
        live = t.live ∙ is.live;
        jobs = λ s. t.jobs s ∙ is.jobs s;
        running = t.running ∙ is.running;
        numbers = λ n. t.numbers n ∙ is.numbers n;
        holders = holders;
        failures = λ key. t.failures key ∙ is.failures key;
        stopped = t.stopped ∙ is.stopped;
      };
      counted = omega (arith, t.events, is.events);
    }
  where
    o : Options
    o = hub.options

    holders : (a p : ℕ) → holder_at hub.board a p ≡ holder o (past_of log) (V4 a) p
    holders a p =
        by_test (is_legacy o.mode)
        (λ own. holds.nobody own a p ∙ sym (holder-legacy o (past_of log) (V4 a) p own))
        (λ shared.
        same-values (holder_at hub.board a p) (holder o (past_of log) (V4 a) p)
        (λ s held. waits-holds o log shared right (V4 a) p s (on-waits o (past_of log) s (V4 a) p (waits-told o log x s a p is ((holds.waiting shared a p s).0 held))))
        (λ s held. (holds.waiting shared a p s).1 (told-waits o log x s a p is (waits-on o (past_of log) s (V4 a) p (holder-waits o log shared right (V4 a) p s held)))))

-- of a hub that stands for a log, the holders of ports are those who wait by what it tells
pub holds-told : (hub : Hub) (log : List Entry) (x : HubState) → TellsState hub x → Stands hub log → HoldsAreTold hub x
holds-told hub log x t st =
    let o : Options = hub.options in
    let is : IsState o log x = state-told hub log x t st in
    record {
      waiting = λ shared a p s. (
        λ held. told-waits o log x s a p is (waits-on o (past_of log) s (V4 a) p (holder-waits o log shared st.right (V4 a) p s (sym (st.tables.holders a p) ∙ held))),
        λ waits. st.tables.holders a p ∙ waits-holds o log shared st.right (V4 a) p s (on-waits o (past_of log) s (V4 a) p (waits-told o log x s a p is waits)),
      );
      nobody = λ own a p. st.tables.holders a p ∙ holder-legacy o (past_of log) (V4 a) p own;
    }

-- so a hub stands for every log of which it tells the state, where it stands for one of them
pub stands-all : (hub : Hub) (log other : List Entry) (x : HubState) → TellsState hub x → Stands hub log → IsRight hub.options other → IsActed hub.options other → IsState hub.options other x → Stands hub other
stands-all hub log other x t st right acted is = stands-told hub other x right acted is t (holds-told hub log x t st)
