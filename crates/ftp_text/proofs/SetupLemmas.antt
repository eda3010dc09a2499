-- Each line of a script is read exactly.
use Rattle.std.proofs.Common.{◌≡◌, ℕ, ◌^◌, ◌<◌, Bool, true, false, cond, eqb, List, [], ◌∷◌, ◌++◌, length, Option, Some, None, refl, sym, ap, subst, ◌∙◌, arith}
use Rattle.std.specs.Prelude.{codes}
use Rattle.std.specs.Fmt.{decimal}
use Rattle.std.specs.Char.{is_ascii_digit}
use Rattle.std.proofs.lemmas.Fmt.{decimal_nonempty}
use Rattle.std.proofs.lemmas.Bool.{eqb-true, leb-true, le-leb}
use Rattle.std.proofs.lemmas.Option.{cond_some}
use Rattle.std.proofs.lemmas.List.{append-nil, nil_from_length, length-append}
use Rattle.ftp_events.specs.declared.event.HubEvent.{HubEvent}
use Rattle.ftp_text.specs.declared.setup.Item.{Item}
use Rattle.ftp_text.specs.declared.setup.Item.TheVariants as item
use Rattle.ftp_base.specs.declared.fault.LinkFault.{LinkFault}
use Rattle.ftp_text.specs.Fields.{field, number, hex_text, escape, listed, link_call_text, IsText, AreCalls}
use Rattle.ftp_text.specs.Events.{kind_fields, event_line, IsEvent}
use Rattle.ftp_text.specs.Options.{listening_fields, rule_fields, IsListening, AreRules}
use Rattle.ftp_text.specs.OptionsReading.{Listening, listening_at, Rules, rules_at}
use Rattle.ftp_text.specs.Setup.{is_skipped, item_line, is_absolute, IsItem, IsItemOf}
use Rattle.ftp_text.specs.Reading.{◌>>=◌, Reader, made, pair, tested, begins, behind_text, number_field, hex_field, text_field, calls_field, call_of}
use Rattle.ftp_text.specs.EventReading.{event_of}
use Rattle.ftp_text.specs.SetupReading.{moves, link_calls_at, options_at, storage_at, dir_at, is_placed, file_at, quota_at, budget_at, link_at, whole, item_of}
use Rattle.ftp_text.proofs.Exact.{Ends, IsNil, IsExact, bind_ok, some_is, pair_exact, made_takes, made_again, behind_text_exact, tested_exact}
use Rattle.ftp_text.proofs.Values.{begins_decimal, text_exact}
use Rattle.ftp_text.proofs.HexTexts.{hex_exact}
use Rattle.ftp_text.proofs.LineLaws.{ReadsLines}
use Rattle.ftp_text.proofs.EventLemmas.{event_takes, event_again}
use Rattle.ftp_text.proofs.OptionsLemmas.{listening_exact, rules_exact}
use Rattle.ftp_text.proofs.FieldLemmas.{number_is, small_is, calls_is, link_calls_is}

-- an item that a line spells
abbrev IsSpelled : Item → Type 0
IsSpelled item.Skip = ⊥
IsSpelled _ = Unit {0}

abbrev OptionsFields : Type 0
OptionsFields = Listening × Rules

abbrev options_item : OptionsFields → Item
options_item x = item.Options x.0.0 x.0.1.0 x.0.1.1 x.1.0 x.1.1.0 x.1.1.1.0 x.1.1.1.1.0 x.1.1.1.1.1

-- the options, as who listens and what else the sessions go by
options_exact : IsExact (λ (x : OptionsFields). codes "options" ++ (listening_fields x.0.0 x.0.1.0 x.0.1.1 ++ rule_fields x.1.0 x.1.1.0 x.1.1.1.0 x.1.1.1.1.0 x.1.1.1.1.1))
    (λ (x : OptionsFields). IsListening x.0.0 x.0.1.0 x.0.1.1 × AreRules x.1.0 x.1.1.1.0 x.1.1.1.1.0) Ends
    (behind_text (codes "options") (pair listening_at rules_at))
options_exact = behind_text_exact (codes "options") (pair_exact listening_exact rules_exact (λ y rest h. refl))

-- the storage, as a number and the calls that fail
storage_exact : IsExact (λ (x : ℕ × List ℕ). codes "storage" ++ (number x.0 ++ field (listed decimal x.1)))
    (λ (x : ℕ × List ℕ). (x.0 < 2 ^ 64) × AreCalls (λ call. call) x.1) Ends
    (behind_text (codes "storage") (pair number_field (calls_field call_of (λ call. call))))
storage_exact = behind_text_exact (codes "storage") (pair_exact number_is calls_is (λ y rest h. refl))

dir_exact : IsExact (λ (path : List ℕ). codes "dir" ++ field (escape path)) (λ (path : List ℕ). IsText path × (is_absolute path ≡ true)) IsNil
    (tested is_absolute (behind_text (codes "dir") text_field))
dir_exact = tested_exact is_absolute (behind_text_exact (codes "dir") text_exact)

-- a file, as its bytes and its path
file_exact : IsExact (λ (x : List ℕ × List ℕ). codes "file" ++ (field (hex_text x.0) ++ field (escape x.1)))
    (λ (x : List ℕ × List ℕ). (IsText x.0 × IsText x.1) × (is_placed x ≡ true)) IsNil
    (tested is_placed (behind_text (codes "file") (pair hex_field text_field)))
file_exact = tested_exact is_placed (behind_text_exact (codes "file") (pair_exact hex_exact text_exact (λ y rest h. refl)))

quota_exact : IsExact (λ (default : ℕ). codes "quota" ++ number default) (λ (default : ℕ). default < 2 ^ 64) Ends (behind_text (codes "quota") number_field)
quota_exact = behind_text_exact (codes "quota") number_is

-- a user's own budget, as its bytes and the user
budget_exact : IsExact (λ (x : ℕ × List ℕ). codes "budget" ++ (number x.0 ++ field (escape x.1))) (λ (x : ℕ × List ℕ). (x.0 < 2 ^ 64) × IsText x.1) IsNil
    (behind_text (codes "budget") (pair number_field text_field))
budget_exact = behind_text_exact (codes "budget") (pair_exact number_is text_exact (λ y rest h. refl))

abbrev LinkFields : Type 0
LinkFields = ((ℕ × ℕ) × List (ℕ × LinkFault)) × List ℕ

-- a link, as its number, its chunk, its failing calls and its bytes
link_exact : IsExact (λ (x : LinkFields). codes "link" ++ (((number x.0.0.0 ++ number x.0.0.1) ++ field (listed link_call_text x.0.1)) ++ field (hex_text x.1)))
    (λ (x : LinkFields). ((((x.0.0.0 < 2 ^ 64) × (x.0.0.1 < 65537)) × AreCalls (λ call. call.0) x.0.1) × IsText x.1) × (moves x ≡ true)) Ends
    (tested moves (behind_text (codes "link") (pair link_calls_at hex_field)))
link_exact =
    tested_exact moves
    (behind_text_exact (codes "link")
    (pair_exact
    (pair_exact (pair_exact number_is (small_is 65537 (omega arith)) (λ y rest h. refl)) link_calls_is (λ y rest h. refl))
    hex_exact
    (λ y rest h. refl)))

-- what a reader of lines finds is an item that the line spells
abbrev Takes : Reader Item → Type 0
Takes read = (line : List ℕ) (y : Item × List ℕ) → read line ≡ Some y → (line ≡ item_line y.0 ++ y.1) × (IsItem y.0 × IsSpelled y.0)

made_item : {A : Type 0} {s : A → List ℕ} {F : A → Type 0} {W : List ℕ → Type 0} {r : List ℕ → Option (A × List ℕ)} → IsExact s F W r → (make : A → Item) →
    ((x : A) → item_line (make x) ≡ s x) → ((x : A) → F x → IsItem (make x) × IsSpelled (make x)) → Takes (made make r)
made_item exact make same fits line y e = made_takes exact make item_line (λ i. IsItem i × IsSpelled i) [] same fits line y e

spelled_is : (line : List ℕ) (i : Item) → IsSpelled i → item_line i ≡ line → IsItem i → IsItemOf line i
spelled_is line item.Skip s e f = absurd s
spelled_is line (item.Options mode lo hi host active idle lockout restart) s e f = (e, f)
spelled_is line (item.Storage max fails) s e f = (e, f)
spelled_is line (item.Dir path) s e f = (e, f)
spelled_is line (item.File bytes path) s e f = (e, f)
spelled_is line (item.Quota default) s e f = (e, f)
spelled_is line (item.Budget bytes user) s e f = (e, f)
spelled_is line (item.Link n chunk fails bytes) s e f = (e, f)
spelled_is line (item.Event d) s e f = (e, f)

whole_takes : (line : List ℕ) (i : Item) (read : Option (Item × List ℕ)) → ((y : Item × List ℕ) → read ≡ Some y → (line ≡ item_line y.0 ++ y.1) × (IsItem y.0 × IsSpelled y.0)) → whole read ≡ Some i → IsItemOf line i
whole_takes line i read takes e =
    let a = bind_ok read (λ x. cond (eqb (length x.1) 0) (Some x.0) None) i e in
    let p = cond_some (eqb (length a.0.1) 0) a.0.0 i a.2 in
    let t = takes a.0 a.1 in
    let nothing : a.0.1 ≡ [] = nil_from_length a.0.1 (eqb-true _ _ p.0) in
    let same : item_line a.0.0 ≡ line = sym (t.0 ∙ ap (λ (x : List ℕ). item_line a.0.0 ++ x) nothing ∙ append-nil (item_line a.0.0)) in
    subst (λ (x : Item). IsItemOf line x) p.1 (spelled_is line a.0.0 t.1.1 same t.1.0)

-- the item's line is read as the item
abbrev IsRead : Item → Type 0
IsRead i = item_of (item_line i) ≡ Some i

-- the line with nothing behind it is read as what it spells
read_whole : (read : Reader Item) (i : Item) → read (item_line i ++ []) ≡ Some (i, []) → whole (read (item_line i)) ≡ Some i
read_whole read i e = ap whole (ap read (sym (append-nil (item_line i))) ∙ e)

options_again : (x : OptionsFields) → IsItem (options_item x) → IsRead (options_item x)
unfolding item_of options_at
options_again x f = read_whole options_at (options_item x) (made_again options_exact options_item x [] f tt)

storage_again : (max : ℕ) (fails : List ℕ) → IsItem (item.Storage max fails) → IsRead (item.Storage max fails)
unfolding item_of storage_at
storage_again max fails f =
    let x : ℕ × List ℕ = (max, fails) in
    read_whole storage_at (item.Storage max fails) (made_again storage_exact (λ y. item.Storage y.0 y.1) x [] f tt)

dir_again : (path : List ℕ) → IsItem (item.Dir path) → IsRead (item.Dir path)
unfolding item_of dir_at
dir_again path f = read_whole dir_at (item.Dir path) (made_again dir_exact (λ p. item.Dir p) path [] f tt)

file_again : (bytes path : List ℕ) → IsItem (item.File bytes path) → IsRead (item.File bytes path)
unfolding item_of file_at
file_again bytes path f =
    let x : List ℕ × List ℕ = (bytes, path) in
    read_whole file_at (item.File bytes path) (made_again file_exact (λ y. item.File y.0 y.1) x [] ((f.0, f.1), f.2) tt)

quota_again : (default : ℕ) → IsItem (item.Quota default) → IsRead (item.Quota default)
unfolding item_of quota_at
quota_again default f = read_whole quota_at (item.Quota default) (made_again quota_exact (λ n. item.Quota n) default [] f tt)

budget_again : (bytes : ℕ) (user : List ℕ) → IsItem (item.Budget bytes user) → IsRead (item.Budget bytes user)
unfolding item_of budget_at
budget_again bytes user f =
    let x : ℕ × List ℕ = (bytes, user) in
    read_whole budget_at (item.Budget bytes user) (made_again budget_exact (λ y. item.Budget y.0 y.1) x [] f tt)

link_again : (n chunk : ℕ) (fails : List (ℕ × LinkFault)) (bytes : List ℕ) → IsItem (item.Link n chunk fails bytes) → IsRead (item.Link n chunk fails bytes)
unfolding item_of link_at
link_again n chunk fails bytes f =
    let x : LinkFields = (((n, chunk), fails), bytes) in
    read_whole link_at (item.Link n chunk fails bytes)
    (made_again link_exact (λ y. item.Link y.0.0.0 y.0.0.1 y.0.1 y.1) x [] ((((f.0, omega (arith, f.2)), f.3), f.4), le-leb 1 chunk f.1) tt)

not_skipped : (line : List ℕ) → begins 35 line ≡ false → 0 < length line → is_skipped line ≡ false
not_skipped [] h some = absurd (omega arith)
not_skipped (c ∷ line) h some = h

-- what a line is read as, by what it begins with
abbrev chosen : (skipped o s d f q b l : Bool) → List ℕ → Option Item
chosen skipped o s d f q b l line =
    cond skipped (Some item.Skip)
    (cond o (whole (options_at line))
    (cond s (whole (storage_at line))
    (cond d (whole (dir_at line))
    (cond f (whole (file_at line))
    (cond q (whole (quota_at line))
    (cond b (whole (budget_at line)) (cond l (whole (link_at line)) (event_of line >>= λ e. Some (item.Event e)))))))))

-- a line that begins with nothing of the set-up is an event's
chosen_event : (line : List ℕ) (skipped o s d f q b l : Bool) → skipped ≡ false → o ≡ false → s ≡ false → d ≡ false → f ≡ false → q ≡ false → b ≡ false → l ≡ false →
    chosen skipped o s d f q b l line ≡ (event_of line >>= λ e. Some (item.Event e))
chosen_event line skipped o s d f q b l no_skip no_o no_s no_d no_f no_q no_b no_l =
    λ i. chosen (no_skip i) (no_o i) (no_s i) (no_d i) (no_f i) (no_q i) (no_b i) (no_l i) line

-- a line of an event begins with a digit
event_again_item : (e : HubEvent) → IsEvent e → IsRead (item.Event e)
unfolding item_of
event_again_item e fits =
    let line = event_line e in
    let no = λ (c : ℕ) (h : is_ascii_digit c ≡ false). begins_decimal c e.at (kind_fields e.kind) h fits.0 in
    let some : is_skipped line ≡ false = not_skipped line (no 35 refl) (omega (arith, length-append (decimal e.at) (kind_fields e.kind), decimal_nonempty e.at fits.0)) in
    chosen_event line (is_skipped line) (begins 111 line) (begins 115 line) (begins 100 line) (begins 102 line) (begins 113 line) (begins 98 line) (begins 108 line)
    some (no 111 refl) (no 115 refl) (no 100 refl) (no 102 refl) (no 113 refl) (no 98 refl) (no 108 refl)
    ∙ ap (λ r. r >>= λ d. Some (item.Event d)) (event_again e fits)

item_cases : (skipped o s d f q b l : Bool) (line : List ℕ) (i : Item) → is_skipped line ≡ skipped → chosen skipped o s d f q b l line ≡ Some i → IsItemOf line i
unfolding options_at storage_at dir_at file_at quota_at budget_at link_at
item_cases true o s d f q b l line i p e = subst (λ (x : Item). IsItemOf line x) (some_is item.Skip i e) p
item_cases false true s d f q b l line i p e =
    whole_takes line i (options_at line) (made_item options_exact options_item (λ x. refl) (λ x f. (f, tt)) line) e
item_cases false false true d f q b l line i p e =
    whole_takes line i (storage_at line) (made_item storage_exact (λ x. item.Storage x.0 x.1) (λ x. refl) (λ x f. (f, tt)) line) e
item_cases false false false true f q b l line i p e =
    whole_takes line i (dir_at line) (made_item dir_exact (λ path. item.Dir path) (λ x. refl) (λ x f. (f, tt)) line) e
item_cases false false false false true q b l line i p e =
    whole_takes line i (file_at line) (made_item file_exact (λ x. item.File x.0 x.1) (λ x. refl) (λ x f. ((f.0.0, f.0.1, f.1), tt)) line) e
item_cases false false false false false true b l line i p e =
    whole_takes line i (quota_at line) (made_item quota_exact (λ default. item.Quota default) (λ x. refl) (λ x f. (f, tt)) line) e
item_cases false false false false false false true l line i p e =
    whole_takes line i (budget_at line) (made_item budget_exact (λ x. item.Budget x.0 x.1) (λ x. refl) (λ x f. (f, tt)) line) e
item_cases false false false false false false false true line i p e =
    whole_takes line i (link_at line)
    (made_item link_exact (λ x. item.Link x.0.0.0 x.0.0.1 x.0.1 x.1) (λ x. refl)
    (λ x f. ((f.0.0.0.0, leb-true 1 x.0.0.1 f.1, omega (arith, f.0.0.0.1), f.0.0.1, f.0.1), tt)) line) e
item_cases false false false false false false false false line i p e =
    let first = bind_ok (event_of line) (λ x. Some (item.Event x)) i e in
    subst (λ (x : Item). IsItemOf line x) (some_is (item.Event first.0) i first.2) (event_takes line first.0 first.1)

-- what is read has this line
pub item_takes : (line : List ℕ) (i : Item) → item_of line ≡ Some i → IsItemOf line i
unfolding item_of
item_takes line i e =
    item_cases (is_skipped line) (begins 111 line) (begins 115 line) (begins 100 line) (begins 102 line) (begins 113 line) (begins 98 line) (begins 108 line) line i refl e

-- what has this line is read
pub item_again : (line : List ℕ) (i : Item) → IsItemOf line i → item_of line ≡ Some i
unfolding item_of
item_again line item.Skip p = rw p refl
item_again line (item.Options mode lo hi host active idle lockout restart) p =
    let x : OptionsFields = ((mode, (lo, hi)), (host, (active, (idle, (lockout, restart))))) in
    ap item_of (sym p.0) ∙ options_again x p.1
item_again line (item.Storage max fails) p = ap item_of (sym p.0) ∙ storage_again max fails p.1
item_again line (item.Dir path) p = ap item_of (sym p.0) ∙ dir_again path p.1
item_again line (item.File bytes path) p = ap item_of (sym p.0) ∙ file_again bytes path p.1
item_again line (item.Quota default) p = ap item_of (sym p.0) ∙ quota_again default p.1
item_again line (item.Budget bytes user) p = ap item_of (sym p.0) ∙ budget_again bytes user p.1
item_again line (item.Link n chunk fails bytes) p = ap item_of (sym p.0) ∙ link_again n chunk fails bytes p.1
item_again line (item.Event e) p = ap item_of (sym p.0) ∙ event_again_item e p.1

pub reads_items : ReadsLines IsItemOf item_of
reads_items = record { takes = item_takes; again = item_again }
