-- Refused events, and tables that give the same answers.
use Rattle.std.proofs.Common.{◌≡◌, sym, ap, ◌∙◌, subst, true, List, [], ◌∷◌, arith}
use Rattle.ftp_hub.proofs.Common.{Action, Answer, Decision, Entry, Hub, HubEvent, IsActed, IsRight, Options, Serves, Stands, Tables, V4, acts, decide, entry, failures, holder, is_refusal, past_of, running_job, session}
use Rattle.ftp_events.specs.declared.counters.Counters.{Counters}
use Rattle.ftp_events.specs.Counts.{Counted}
use Rattle.ftp_laws.proofs.QuestionLemmas.{counting-refused}
use Rattle.ftp_hub.specs.Stands.{SameTables, SameAnswers}

-- a refused event changes nothing
pub serves-refusal : (old new : Hub) (log : List Entry) (event : HubEvent) (answer : Answer) (d : Decision) (done : List Action) → Stands old log → d ≡ decide old.options log event answer → is_refusal d ≡ true → done ≡ [] → Tables new (past_of log) → Serves old new log event answer d done
unfolding acts
serves-refusal old new log event answer d done st right refused nothing tables =
    record {
      decision = right;
      done = rw refused nothing;
      tables = subst (Tables new) (sym (counting-refused (entry event answer d done) log refused)) tables;
    }

-- where the hub is as it was
pub serves-refused : (hub : Hub) (log : List Entry) (event : HubEvent) (answer : Answer) (d : Decision) (done : List Action) → Stands hub log → d ≡ decide hub.options log event answer → is_refusal d ≡ true → done ≡ [] → Serves hub hub log event answer d done
serves-refused hub log event answer d done st right refused nothing = serves-refusal hub hub log event answer d done st right refused nothing st.tables

-- so a refused event leaves every answer of the tables
pub same-refused : (old new : Hub) (log : List Entry) (event : HubEvent) (answer : Answer) (d : Decision) (done : List Action) → new.options ≡ old.options → Stands old log → Serves old new log event answer d done → is_refusal d ≡ true → SameTables old new
same-refused old new log event answer d done same st served refused =
    let after : Tables new (past_of log) = subst (Tables new) (counting-refused (entry event answer d done) log refused) served.tables in
    let before = st.tables in
    record {
      sessions = λ s. after.sessions s ∙ ap (λ o. session o (past_of log) s) same ∙ sym (before.sessions s);
      live = after.live ∙ sym before.live;
      jobs = λ s. after.jobs s ∙ ap (λ o. running_job o (past_of log) s) same ∙ sym (before.jobs s);
      running = after.running ∙ sym before.running;
      numbers = λ n. after.numbers n ∙ sym (before.numbers n);
      holders = λ a p. after.holders a p ∙ ap (λ o. holder o (past_of log) (V4 a) p) same ∙ sym (before.holders a p);
      failures = λ key. after.failures key ∙ ap (λ o. failures o (past_of log) key) same ∙ sym (before.failures key);
      stopped = after.stopped ∙ sym before.stopped;
    }

-- tables that answer every question as before answer as the same past
pub tables-same : (old new : Hub) (past : List Entry) → new.options ≡ old.options → SameTables old new → Tables old past → Tables new past
tables-same old new past options same tables =
    record {
      sessions = λ s. same.sessions s ∙ tables.sessions s ∙ ap (λ (o : Options). session o past s) (sym options);
      live = same.live ∙ tables.live;
      jobs = λ s. same.jobs s ∙ tables.jobs s ∙ ap (λ (o : Options). running_job o past s) (sym options);
      running = same.running ∙ tables.running;
      numbers = λ n. same.numbers n ∙ tables.numbers n;
      holders = λ a p. same.holders a p ∙ tables.holders a p ∙ ap (λ (o : Options). holder o past (V4 a) p) (sym options);
      failures = λ key. same.failures key ∙ tables.failures key ∙ ap (λ (o : Options). failures o past key) (sym options);
      stopped = same.stopped ∙ tables.stopped;
    }

-- a hub that answers every question as before stands for the same log
pub stands-same : (old new : Hub) (log : List Entry) → SameAnswers old new → Stands old log → Stands new log
stands-same old new log same st =
    record {
      right = subst (λ (o : Options). IsRight o log) (sym same.head.options) st.right;
      acted = subst (λ (o : Options). IsActed o log) (sym same.head.options) st.acted;
      tables = tables-same old new (past_of log) same.head.options same.tables st.tables;
      counted = omega (arith, same.head.count, st.counted);
    }

-- so does one with whose entry the actions were taken out of the room
pub stands-taken :
    (left new : Hub) (log : List Entry) (event : HubEvent) (answer : Answer) (d : Decision) (done taken : List Action) →
    SameAnswers left new → taken ≡ done → Stands left (entry event answer d done ∷ log) → Stands new (entry event answer d taken ∷ log)
stands-taken left new log event answer d done taken same is st =
    stands-same left new (entry event answer d taken ∷ log) same (subst (λ (xs : List Action). Stands left (entry event answer d xs ∷ log)) (sym is) st)

-- hubs that give the same answers have counted the same
pub counted-same : (old new : Hub) (past : List Entry) → SameAnswers old new → Counted old.options past old.counters → Counted new.options past new.counters
counted-same old new past same told =
    subst (λ (o : Options). Counted o past new.counters) (sym same.head.options)
    (subst (λ (x : Counters). Counted old.options past x) (sym same.head.counters) told)
