-- Those who have left with a stop so far, and those who still have to.
use Rattle.std.proofs.Common.{◌≡◌, refl, sym, ap, ◌∙◌, subst, ℕ, Bool, true, false, cond, ◌||◌, List, [], ◌∷◌, ◌++◌, length, map, Option, Some, None, append-nil, append_assoc, eqb-true, eq-eqb}
use Rattle.std.specs.Prelude.{◌==◌, flat_map, is_some, nat_eq}
use Rattle.std.specs.Map.{lookup}
use Rattle.std.specs.Option.{option_map_or}
use Rattle.std.proofs.lemmas.Grind.{flat_map-append}
use Rattle.ftp_hub.proofs.Common.{Action, Answer, Options, Running, Session, session_acts}
use Rattle.ftp_events.specs.declared.decision.Decision.TheVariants.{Stopped}
use Rattle.ftp_events.specs.declared.event.EventKind.TheVariants.{Shutdown}
use Rattle.ftp_events.specs.Login.{logged_user}
use Rattle.ftp_handlers.specs.Copies.{Leaver}
use Rattle.ftp_handlers.specs.Rooms.{HasLeave, RoomState, actions_in, leavers_in, twice_in}
use Rattle.ftp_laws.specs.Census.{IsAscending, has as is_listed}
use Rattle.ftp_laws.proofs.LiveLemmas.{above-lacks}
use Rattle.ftp_hub.specs.Leavers.{AreFew, AreLeavers, leaver_of, numbers_of}

-- what is done for a session that leaves
abbrev pub leave_acts : Options → Answer → (ℕ → Option Running) → (ℕ → Option Session) → ℕ → List Action
leave_acts o answer jobs live s = session_acts o s Shutdown answer Stopped (jobs s) (live s)

-- the numbers of those who leave, each with its user
numbers-back : (live : ℕ → Option Session) (numbers : List ℕ) → numbers_of (map (leaver_of live) numbers) ≡ numbers
numbers-back live [] = refl
numbers-back live (s ∷ numbers) = ap (λ ns. s ∷ ns) (numbers-back live numbers)

-- the live sessions in order, each with its user, are those who leave
pub are-leavers :
    (live : ℕ → Option Session) (numbers : List ℕ) (leavers : List Leaver) →
    IsAscending numbers → ((s : ℕ) → is_listed numbers s ≡ is_some (live s)) → leavers ≡ map (leaver_of live) numbers →
    AreLeavers live leavers
are-leavers live numbers leavers ascends all named =
    let same : numbers_of leavers ≡ numbers = ap numbers_of named ∙ numbers-back live numbers in
    record {
      in_order = subst IsAscending (sym same) ascends;
      all = λ s. ap (λ (ns : List ℕ). is_listed ns s) same ∙ all s;
      named = named ∙ ap (map (leaver_of live)) (sym same);
    }

-- of the live sessions the first have left, and the others are there still, in order
pub record Leaving (live now : ℕ → Option Session) (first room : RoomState) : Type 0 where
  pub gone : List ℕ
  pub parts : numbers_of (leavers_in first) ≡ gone ++ numbers_of (leavers_in room)
  pub in_order : IsAscending (numbers_of (leavers_in room))
  pub named : leavers_in room ≡ map (leaver_of live) (numbers_of (leavers_in room))
  pub there : (s : ℕ) → now s ≡ cond (is_listed (numbers_of (leavers_in room)) s) (live s) None
  pub alive : (s : ℕ) → is_listed (numbers_of (leavers_in room)) s ≡ true → is_some (live s) ≡ true
  pub places : HasLeave room
  pub acts : AreFew live → (o : Options) (answer : Answer) (jobs : ℕ → Option Running) → actions_in room ≡ actions_in first ++ flat_map (leave_acts o answer jobs live) gone
  pub twice : twice_in room ≡ twice_in first

-- at first nobody has left
pub leaving-first : (live : ℕ → Option Session) (room : RoomState) → AreLeavers live (leavers_in room) → HasLeave room → Leaving live live room room
leaving-first live room are places =
    record {
      gone = [];
      parts = refl;
      in_order = are.in_order;
      named = are.named;
      there = λ s. sym (ap (λ b. cond b (live s) None) (are.all s) ∙ same (live s));
      alive = λ s listed. sym (are.all s) ∙ listed;
      places = places;
      acts = λ few o answer jobs. sym (append-nil (actions_in room));
      twice = refl;
    }
  where
    same : (v : Option Session) → cond (is_some v) v None ≡ v
    same None = refl
    same (Some v) = refl

-- who leaves next is live, and is told by its user
pub record IsNext (live now : ℕ → Option Session) (next : Leaver) (rest : List Leaver) : Type 0 where
  pub here : now next.session ≡ live next.session
  pub some : is_some (live next.session) ≡ true
  pub user : next.user ≡ option_map_or (λ v. logged_user v.login v.name) (live next.session) []
  pub in_order : IsAscending (numbers_of rest)
  pub named : rest ≡ map (leaver_of live) (numbers_of rest)
  pub off : is_listed (numbers_of rest) next.session ≡ false

user_of : List Leaver → List ℕ
user_of [] = []
user_of (l ∷ ls) = l.user

rest_of : List Leaver → List Leaver
rest_of [] = []
rest_of (l ∷ ls) = ls

pub leaving-next :
    (live now : ℕ → Option Session) (first room : RoomState) (next : Leaver) (rest : List Leaver) →
    Leaving live now first room → leavers_in room ≡ next ∷ rest → IsNext live now next rest
unfolding user_of rest_of
leaving-next live now first room next rest l is =
    record {
      here = l.there s ∙ ap (λ b. cond b (live s) None) listed;
      some = l.alive s listed;
      user = ap user_of names;
      in_order = ascends.1;
      named = ap rest_of names;
      off = above-lacks s s (numbers_of rest) (eq-eqb s s refl) ascends.0;
    }
  where
    s : ℕ
    s = next.session

    names : next ∷ rest ≡ map (leaver_of live) (numbers_of (next ∷ rest))
    names = subst (λ (ls : List Leaver). ls ≡ map (leaver_of live) (numbers_of ls)) is l.named

    ascends : IsAscending (numbers_of (next ∷ rest))
    ascends = subst (λ (ls : List Leaver). IsAscending (numbers_of ls)) is l.in_order

    listed : is_listed (numbers_of (leavers_in room)) s ≡ true
    listed = ap (λ (ls : List Leaver). is_listed (numbers_of ls) s) is ∙ ap (λ b. b || is_listed (numbers_of rest) s) (eq-eqb s s refl)

-- one more has left
pub leaving-more :
    (live now after : ℕ → Option Session) (first room new : RoomState) (next : Leaver) (v : Session) →
    Leaving live now first room → leavers_in room ≡ next ∷ leavers_in new → live next.session ≡ Some v →
    ((s : ℕ) → after s ≡ cond (next.session == s) None (now s)) →
    HasLeave new → twice_in new ≡ twice_in room →
    (AreFew live → (o : Options) (answer : Answer) (job : Option Running) → actions_in new ≡ actions_in room ++ session_acts o next.session Shutdown answer Stopped job (Some v)) →
    Leaving live after first new
leaving-more live now after first room new next v l is known took places twice acted =
    record {
      gone = l.gone ++ s ∷ [];
      parts = l.parts ∙ ap (λ (ls : List Leaver). l.gone ++ numbers_of ls) is ∙ sym (append_assoc l.gone (s ∷ []) (numbers_of (leavers_in new)));
      in_order = n.in_order;
      named = n.named;
      there = λ q. took q ∙ ap (cond (s == q) None) (l.there q ∙ ap (λ (ls : List Leaver). cond (is_listed (numbers_of ls) q) (live q) None) is) ∙ still q (s == q) refl;
      alive = λ q listed. l.alive q (ap (λ (ls : List Leaver). is_listed (numbers_of ls) q) is ∙ behind (s == q) (is_listed (numbers_of (leavers_in new)) q) listed);
      places = places;
      acts = λ few o answer jobs.
          acted few o answer (jobs s)
          ∙ ap (λ xs. xs ++ session_acts o s Shutdown answer Stopped (jobs s) (Some v)) (l.acts few o answer jobs)
          ∙ append_assoc (actions_in first) (flat_map (leave_acts o answer jobs live) l.gone) (session_acts o s Shutdown answer Stopped (jobs s) (Some v))
          ∙ ap (λ ys. actions_in first ++ (flat_map (leave_acts o answer jobs live) l.gone ++ ys)) (one o answer jobs)
          ∙ ap (λ ys. actions_in first ++ ys) (sym (flat_map-append (leave_acts o answer jobs live) l.gone (s ∷ [])));
      twice = twice ∙ l.twice;
    }
  where
    s : ℕ
    s = next.session

    n : IsNext live now next (leavers_in new)
    n = leaving-next live now first room next (leavers_in new) l is

    one : (o : Options) (answer : Answer) (jobs : ℕ → Option Running) → session_acts o s Shutdown answer Stopped (jobs s) (Some v) ≡ flat_map (leave_acts o answer jobs live) (s ∷ [])
    one o answer jobs = ap (session_acts o s Shutdown answer Stopped (jobs s)) (sym known) ∙ sym (append-nil (leave_acts o answer jobs live s))

    still : (q : ℕ) (b : Bool) → (s == q) ≡ b → cond b None (cond (b || is_listed (numbers_of (leavers_in new)) q) (live q) None) ≡ cond (is_listed (numbers_of (leavers_in new)) q) (live q) None
    still q true h =
        let gone : is_listed (numbers_of (leavers_in new)) q ≡ false = ap (is_listed (numbers_of (leavers_in new))) (sym (eqb-true s q h)) ∙ n.off in
        sym (ap (λ b. cond b (live q) None) gone)
    still q false h = refl

    behind : (a b : Bool) → b ≡ true → (a || b) ≡ true
    behind true b h = refl
    behind false b h = h

-- at last nobody is left
pub leaving-none :
    (live now : ℕ → Option Session) (first room : RoomState) (s : ℕ) → Leaving live now first room → leavers_in room ≡ [] → now s ≡ None
leaving-none live now first room s l is = l.there s ∙ ap (λ (ls : List Leaver). cond (is_listed (numbers_of ls) s) (live s) None) is

-- and all has been done
pub leaving-acts :
    (live now : ℕ → Option Session) (first room : RoomState) → Leaving live now first room → leavers_in room ≡ [] →
    AreFew live → (o : Options) (answer : Answer) (jobs : ℕ → Option Running) →
    actions_in room ≡ actions_in first ++ flat_map (leave_acts o answer jobs live) (numbers_of (leavers_in first))
leaving-acts live now first room l is few o answer jobs =
    l.acts few o answer jobs
    ∙ ap (λ ns. actions_in first ++ flat_map (leave_acts o answer jobs live) ns)
    (sym (l.parts ∙ ap (λ (ls : List Leaver). l.gone ++ numbers_of ls) is ∙ append-nil l.gone))

-- a table that has nothing at any number is empty
pub none-empty : {V : Type 0} (table : List (ℕ × V)) → ((s : ℕ) → lookup (nat_eq s) table ≡ None) → length table ≡ 0
none-empty [] none = refl
none-empty (e ∷ table) none =
    let clash : Some e.1 ≡ None = sym (ap (λ b. cond b (Some e.1) (lookup (nat_eq e.0) table)) (eq-eqb e.0 e.0 refl)) ∙ none e.0 in
    cc
