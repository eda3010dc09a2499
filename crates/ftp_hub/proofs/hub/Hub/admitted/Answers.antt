use Rattle.std.proofs.Common.{◌≡◌, sym, ◌∙◌, ℕ, Bool, false, not, ◌&&◌, Option, Result, inr, arith}
use Rattle.std.specs.Prelude.{◌⊎◌, IfErr, IsErrAnd, nat_eq}
use Rattle.std.specs.HashMap as map
use Rattle.std.proofs.lemmas.Result.{err_from_is_err_and}
use Rattle.ftp_hub.proofs.Common.{Hub, Running, Session, is_legacy}
use Rattle.ftp_hub.proofs.Refusing.{IsClearTo, all-clear, barred-mode, clear-lines, clear-more, login-clear, mode-clear, number-clear, port-clear, ports-fit, refused-by, refused-twice, ticket-clear, unbarred}
use Rattle.ftp_hub.specs.declared.state.StateError.{StateError}
use Rattle.ftp_hub.specs.declared.state.StateError.TheVariants.{Login, Mode, Number, OutOfMemory, Port, Ticket}
use Rattle.ftp_hub.specs.Refused.{GivesCause, IsFirst, OneLacks, WaitTwice, known_by, refusal_place}
use Rattle.ftp_hub.proofs.hub.Hub.admitted.Goals as goal

abbrev live : Hub → ℕ → Option Session
live hub = map.get nat_eq hub.sessions

abbrev jobs : Hub → ℕ → Option Running
jobs hub = map.get nat_eq hub.jobs

module _ (hub : Hub) (v6 : Bool) where
  -- no session and no job gives cause to a refusal, and nothing does
  abbrev NoneLacks : StateError → Type 0
  NoneLacks e = OneLacks (known_by hub) (live hub) (jobs hub) e → ⊥

  abbrev ClearTo : ℕ → Type 0
  ClearTo = IsClearTo (known_by hub) (live hub) (jobs hub) v6

  -- what has no cause once the numbers passed, then the ports, the tickets and the modes
  clear-numbers : NoneLacks Number → ClearTo 3
  clear-numbers number = clear-more (known_by hub) (live hub) (jobs hub) v6 2 (omega arith) (clear-lines (known_by hub) (live hub) (jobs hub) v6) (number-clear (known_by hub) (live hub) (jobs hub) v6 number)

  clear-ports : NoneLacks Number → NoneLacks Port → (is_legacy hub.options.mode ≡ false → WaitTwice (live hub) → ⊥) → ClearTo 4
  clear-ports number port once = clear-more (known_by hub) (live hub) (jobs hub) v6 3 (omega arith) (clear-numbers number) (port-clear (known_by hub) (live hub) (jobs hub) v6 port once)

  clear-tickets : ClearTo 4 → NoneLacks Ticket → ClearTo 5
  clear-tickets past ticket = clear-more (known_by hub) (live hub) (jobs hub) v6 4 (omega arith) past (ticket-clear (known_by hub) (live hub) (jobs hub) v6 ticket)

  clear-modes : ClearTo 5 → (v6 && not (is_legacy hub.options.mode)) ≡ false → NoneLacks Mode → ClearTo 6
  clear-modes past free mode = clear-more (known_by hub) (live hub) (jobs hub) v6 5 (omega arith) past (mode-clear (known_by hub) (live hub) (jobs hub) v6 mode (unbarred (known_by hub) (live hub) (jobs hub) v6 free))

  -- a refusal that is passed on is want of memory, or first
  first : {A : Type 0} (x : Result A StateError) (e : StateError) → IsErrAnd x (λ y. y ≡ e) → (e ≡ OutOfMemory) ⊎ IsFirst (GivesCause (known_by hub) (live hub) (jobs hub) v6) e → IfErr x (λ y. (y ≡ OutOfMemory) ⊎ IsFirst (GivesCause (known_by hub) (live hub) (jobs hub) v6) y)
  first x e is so = let p = err_from_is_err_and x is in rw (p.1, p.2) so

  one-first : {A : Type 0} (x : Result A StateError) (e r : StateError) → IsErrAnd x (λ y. y ≡ e) → (e ≡ OutOfMemory) ⊎ ((e ≡ r) × OneLacks (known_by hub) (live hub) (jobs hub) r) → ClearTo (refusal_place r) → IfErr x (λ y. (y ≡ OutOfMemory) ⊎ IsFirst (GivesCause (known_by hub) (live hub) (jobs hub) v6) y)
  one-first x e r is lacks clear = first x e is (refused-by (known_by hub) (live hub) (jobs hub) v6 e r lacks clear)

-- a number
pub returns-in_err-look_for-clause-refused : goal.returns-in_err-look_for-clause-refused
returns-in_err-look_for-clause-refused c =
    one-first c.args.self.now c.args.brings_v6 _ _ Number c.from_residual.ensures.1 c.in_err-look_for.ensures.refused
    (clear-lines (known_by c.args.self.now) (live c.args.self.now) (jobs c.args.self.now) c.args.brings_v6)

-- a port out of the range
pub returns-in_err-look_for-2-clause-refused : goal.returns-in_err-look_for-2-clause-refused
returns-in_err-look_for-2-clause-refused c =
    one-first c.args.self.now c.args.brings_v6 _ _ Port c.from_residual-in_err-look_for-2.ensures.1 c.in_err-look_for-2.ensures.refused
    (clear-numbers c.args.self.now c.args.brings_v6 c.in_ok-look_for.ensures.passed)

-- the ports of the sessions are those of the range
pub claimed_ports-requires : goal.claimed_ports-requires
claimed_ports-requires c =
    let hub : Hub = c.args.self.now in
    record { in_range = ports-fit (known_by hub) (live hub) (jobs hub) c.args.brings_v6 c.in_ok-look_for-2.ensures.passed }

-- two that wait for one port
pub returns-in_err-board-clause-refused : goal.returns-in_err-board-clause-refused
returns-in_err-board-clause-refused c =
    let hub : Hub = c.args.self.now in
    first hub c.args.brings_v6 _ _ c.from_residual-in_err-board.ensures.1
    (refused-twice (known_by hub) (live hub) (jobs hub) c.args.brings_v6 c.in_err-board.field-0.0 c.in_err-board.ensures.refused
    (clear-numbers hub c.args.brings_v6 c.in_ok-look_for.ensures.passed))

-- a ticket
pub returns-in_err-look_for-3-clause-refused : goal.returns-in_err-look_for-3-clause-refused
returns-in_err-look_for-3-clause-refused c =
    one-first c.args.self.now c.args.brings_v6 _ _ Ticket c.from_residual-in_err-look_for-3.ensures.1 c.in_err-look_for-3.ensures.refused
    (clear-ports c.args.self.now c.args.brings_v6 c.in_ok-look_for.ensures.passed c.in_ok-look_for-2.ensures.passed c.in_ok-board.ensures.once)

-- a record of an address of version 6
pub returns-then-is_barred-clause-refused : goal.returns-then-is_barred-clause-refused
returns-then-is_barred-clause-refused c =
    let hub : Hub = c.args.self.now in
    let v6 : Bool = c.args.brings_v6 in
    let past = clear-ports hub v6 c.in_ok-look_for.ensures.passed c.in_ok-look_for-2.ensures.passed c.in_ok-board.ensures.once in
    inr (record { cause = barred-mode (known_by hub) (live hub) (jobs hub) v6 (sym c.is_barred.ensures ∙ c.if-is_barred.true); first = clear-tickets hub v6 past c.in_ok-look_for-3.ensures.passed })

-- an address
pub returns-in_err-look_for-4-clause-refused : goal.returns-in_err-look_for-4-clause-refused
returns-in_err-look_for-4-clause-refused c =
    let past = clear-ports c.args.self.now c.args.brings_v6 c.in_ok-look_for.ensures.passed c.in_ok-look_for-2.ensures.passed c.in_ok-board.ensures.once in
    one-first c.args.self.now c.args.brings_v6 _ _ Mode c.from_residual-in_err-look_for-4.ensures.1 c.in_err-look_for-4.ensures.refused
    (clear-tickets c.args.self.now c.args.brings_v6 past c.in_ok-look_for-3.ensures.passed)

-- a login
pub returns-in_err-look_for-5-clause-refused : goal.returns-in_err-look_for-5-clause-refused
returns-in_err-look_for-5-clause-refused c =
    let hub : Hub = c.args.self.now in
    let past = clear-ports hub c.args.brings_v6 c.in_ok-look_for.ensures.passed c.in_ok-look_for-2.ensures.passed c.in_ok-board.ensures.once in
    one-first hub c.args.brings_v6 _ _ Login c.from_residual-in_err-look_for-5.ensures.1 c.in_err-look_for-5.ensures.refused
    (clear-modes hub c.args.brings_v6 (clear-tickets hub c.args.brings_v6 past c.in_ok-look_for-3.ensures.passed) (sym c.is_barred.ensures ∙ c.if-is_barred.false) c.in_ok-look_for-4.ensures.passed)

-- nothing
pub returns-clause-passed : goal.returns-clause-passed
returns-clause-passed c =
    let hub : Hub = c.args.self.now in
    let v6 : Bool = c.args.brings_v6 in
    let past = clear-ports hub v6 c.in_ok-look_for.ensures.passed c.in_ok-look_for-2.ensures.passed c.in_ok-board.ensures.once in
    let all = clear-modes hub v6 (clear-tickets hub v6 past c.in_ok-look_for-3.ensures.passed) (sym c.is_barred.ensures ∙ c.if-is_barred.false) c.in_ok-look_for-4.ensures.passed in
    all-clear (known_by hub) (live hub) (jobs hub) v6 (clear-more (known_by hub) (live hub) (jobs hub) v6 6 (omega arith) all (login-clear (known_by hub) (live hub) (jobs hub) v6 c.in_ok-look_for-5.ensures.passed))
