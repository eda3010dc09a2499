-- What lengths cut off a text, and commands by their parts.
use Rattle.std.proofs.Common.{◌≡◌, ℕ, true, cond, leb, List, [], ◌∷◌, ◌++◌, length, take, drop, Option, Some, None, refl, sym, ap, subst, ◌∙◌, arith}
use Rattle.std.specs.Option.{option_map}
use Rattle.std.proofs.lemmas.Bool.{leb-true, le-leb}
use Rattle.std.proofs.lemmas.Option.{cond_some}
use Rattle.std.proofs.lemmas.List.{length-append, length-take-le, take-append-drop, take_at, drop_at}
use Rattle.ftp_base.specs.declared.command.DataChanCmd.{DataChanCmd}
use Rattle.ftp_base.specs.declared.command.DataChanCmd.TheVariants as command
use Rattle.ftp_base.specs.Command.{path_of}
use Rattle.ftp_text.specs.Fields.{Each, IsNumber, IsText}
use Rattle.ftp_text.specs.Reading.{◌>>=◌}
use Rattle.ftp_text.proofs.Lists.{text-append, text-parts}
use Rattle.ftp_text.proofs.Exact.{bind_ok, some_is}
use Rattle.ftp_events.specs.declared.status.CommandWord.{CommandWord}
use Rattle.ftp_events.specs.declared.status.CommandWord.TheVariants as command_word
use Rattle.ftp_events.specs.Statuses.{word_of}
use Rattle.ftp_text.specs.Spelling.{bytes_or_none, command_options, command_parts, is_from_root, IsPiece, HasPieces, IsFromRoot}
use Rattle.ftp_text.specs.StateLineReading.{cut_at, cut_off, command_with, Lengths, command_in}

-- ---- texts of parts

-- ---- cuts

pub cut_at-takes : (n : ℕ) (text : List ℕ) (x : List ℕ × List ℕ) → cut_at n text ≡ Some x → (text ≡ x.0 ++ x.1) × (length x.0 ≡ n)
cut_at-takes n text x e =
    let whole : List ℕ × List ℕ = (take n text, drop n text) in
    let p = cond_some (leb n (length text)) whole x e in
    subst (λ (y : List ℕ × List ℕ). (text ≡ y.0 ++ y.1) × (length y.0 ≡ n)) p.1
    (sym (take-append-drop n text), length-take-le n text (leb-true n (length text) p.0))

pub cut_at-again : (a b : List ℕ) → cut_at (length a) (a ++ b) ≡ Some (a, b)
cut_at-again a b =
    rw (le-leb (length a) (length (a ++ b)) (omega (arith, length-append a b)), take_at a b (length a) refl, drop_at a b (length a) refl) refl

pub cut_off-takes : (n : Option ℕ) (text : List ℕ) (x : Option (List ℕ) × List ℕ) → cut_off n text ≡ Some x → (text ≡ bytes_or_none x.0 ++ x.1) × (n ≡ option_map length x.0)
unfolding cut_off
cut_off-takes None text x e =
    let whole : Option (List ℕ) × List ℕ = (None, text) in
    subst (λ (y : Option (List ℕ) × List ℕ). (text ≡ bytes_or_none y.0 ++ y.1) × (None ≡ option_map length y.0)) (some_is whole x e) (refl, refl)
cut_off-takes (Some n) text x e =
    let a = bind_ok (cut_at n text) (λ u. Some (Some u.0, u.1)) x e in
    let t = cut_at-takes n text a.0 a.1 in
    let whole : Option (List ℕ) × List ℕ = (Some a.0.0, a.0.1) in
    subst (λ (y : Option (List ℕ) × List ℕ). (text ≡ bytes_or_none y.0 ++ y.1) × (Some n ≡ option_map length y.0)) (some_is whole x a.2)
    (t.0, ap Some (sym t.1))

pub cut_off-again : (p : Option (List ℕ)) (rest : List ℕ) → cut_off (option_map length p) (bytes_or_none p ++ rest) ≡ Some (p, rest)
unfolding cut_off
cut_off-again None rest = refl
cut_off-again (Some a) rest = ap (λ (o : Option (List ℕ × List ℕ)). o >>= λ u. Some (Some u.0, u.1)) (cut_at-again a rest)

-- what is cut off fits its type
pub cut-fits : (n : Option ℕ) (text : List ℕ) (p : Option (List ℕ)) (rest : List ℕ) → text ≡ bytes_or_none p ++ rest → n ≡ option_map length p → IsText text → Each IsNumber n → Each IsPiece p × IsText rest
cut-fits n text None rest same len texts number = (tt, subst IsText same texts)
cut-fits n text (Some a) rest same len texts number =
    let t = text-parts a rest (subst IsText same texts) in ((t.0, subst (Each IsNumber) len number), t.1)

-- how long a piece is fits its type
pub piece-length : (p : Option (List ℕ)) → Each IsPiece p → Each IsNumber (option_map length p)
piece-length None fits = tt
piece-length (Some a) fits = fits.1

pub piece-text : (p : Option (List ℕ)) → Each IsPiece p → IsText (bytes_or_none p)
piece-text None fits = tt
piece-text (Some a) fits = fits.0

-- ---- commands

-- the command is that of its word, its options and its argument
record IsWith (w : CommandWord) (options argument : Option (List ℕ)) (c : DataChanCmd) : Type 0 where
  word : word_of c ≡ w
  options_are : options ≡ command_options c
  argument_is : argument ≡ path_of c

with-takes : (w : CommandWord) (options argument : Option (List ℕ)) (c : DataChanCmd) → command_with w options argument ≡ Some c → IsWith w options argument c
with-takes command_word.Retr None (Some path) c e =
    subst (IsWith command_word.Retr None (Some path)) (some_is (command.Retr path) c e) (record { word = refl; options_are = refl; argument_is = refl })
with-takes command_word.Stor None (Some path) c e =
    subst (IsWith command_word.Stor None (Some path)) (some_is (command.Stor path) c e) (record { word = refl; options_are = refl; argument_is = refl })
with-takes command_word.Appe None (Some path) c e =
    subst (IsWith command_word.Appe None (Some path)) (some_is (command.Appe path) c e) (record { word = refl; options_are = refl; argument_is = refl })
with-takes command_word.List options path c e =
    subst (IsWith command_word.List options path) (some_is (command.List options path) c e) (record { word = refl; options_are = refl; argument_is = refl })
with-takes command_word.Nlst None path c e =
    subst (IsWith command_word.Nlst None path) (some_is (command.Nlst path) c e) (record { word = refl; options_are = refl; argument_is = refl })
with-takes command_word.Mlsd None path c e =
    subst (IsWith command_word.Mlsd None path) (some_is (command.Mlsd path) c e) (record { word = refl; options_are = refl; argument_is = refl })
with-takes _ options argument c e = absurd cc

with-again : (c : DataChanCmd) → command_with (word_of c) (command_options c) (path_of c) ≡ Some c
with-again (command.Retr path) = refl
with-again (command.Stor path) = refl
with-again (command.Appe path) = refl
with-again (command.List options path) = refl
with-again (command.Nlst path) = refl
with-again (command.Mlsd path) = refl

-- the text is that of the command's parts and of the path
pub record IsCommandIn (w : CommandWord) (lengths : Lengths) (text : List ℕ) (x : DataChanCmd × List ℕ) : Type 0 where
  pub word : word_of x.0 ≡ w
  pub options : lengths.0 ≡ option_map length (command_options x.0)
  pub argument : lengths.1 ≡ option_map length (path_of x.0)
  pub text_is : text ≡ command_parts x.0 x.1
  pub pieces : IsText text → Each IsNumber lengths.0 → Each IsNumber lengths.1 → HasPieces x.0 × IsFromRoot x.1

pub command_in-takes : (w : CommandWord) (lengths : Lengths) (text : List ℕ) (x : DataChanCmd × List ℕ) → command_in w lengths text ≡ Some x → IsCommandIn w lengths text x
unfolding command_in
command_in-takes w lengths text x e =
    let a = bind_ok (cut_off lengths.0 text) (λ o. cut_off lengths.1 o.1 >>= λ p. command_with w o.0 p.0 >>= λ c. cond (is_from_root p.1) (Some (c, p.1)) None) x e in
    let b = bind_ok (cut_off lengths.1 a.0.1) (λ p. command_with w a.0.0 p.0 >>= λ c. cond (is_from_root p.1) (Some (c, p.1)) None) x a.2 in
    let c = bind_ok (command_with w a.0.0 b.0.0) (λ c. cond (is_from_root b.0.1) (Some (c, b.0.1)) None) x b.2 in
    let whole : DataChanCmd × List ℕ = (c.0, b.0.1) in
    let d = cond_some (is_from_root b.0.1) whole x c.2 in
    let first = cut_off-takes lengths.0 text a.0 a.1 in
    let second = cut_off-takes lengths.1 a.0.1 b.0 b.1 in
    let is : IsWith w a.0.0 b.0.0 c.0 = with-takes w a.0.0 b.0.0 c.0 c.1 in
    subst (IsCommandIn w lengths text) d.1
    (record {
      word = is.word;
      options = first.1 ∙ ap (option_map length) is.options_are;
      argument = second.1 ∙ ap (option_map length) is.argument_is;
      text_is =
          first.0
          ∙ ap (λ (t : List ℕ). bytes_or_none a.0.0 ++ t) second.0
          ∙ ap (λ (o : Option (List ℕ)). bytes_or_none o ++ (bytes_or_none b.0.0 ++ b.0.1)) is.options_are
          ∙ ap (λ (p : Option (List ℕ)). bytes_or_none (command_options c.0) ++ (bytes_or_none p ++ b.0.1)) is.argument_is;
      pieces = λ texts n m.
          let p = cut-fits lengths.0 text a.0.0 a.0.1 first.0 first.1 texts n in
          let q = cut-fits lengths.1 a.0.1 b.0.0 b.0.1 second.0 second.1 p.1 m in
          ((subst (Each IsPiece) is.options_are p.0, subst (Each IsPiece) is.argument_is q.0), (q.1, d.0));
    })

pub command_in-again : (c : DataChanCmd) (path : List ℕ) → is_from_root path ≡ true →
    command_in (word_of c) (option_map length (command_options c), option_map length (path_of c)) (command_parts c path) ≡ Some (c, path)
unfolding command_in
command_in-again c path rooted =
    rw (cut_off-again (command_options c) (bytes_or_none (path_of c) ++ path), cut_off-again (path_of c) path, with-again c, rooted) refl

-- the text of a command and its path is bytes
pub parts-text : (c : DataChanCmd) (path : List ℕ) → HasPieces c → IsText path → IsText (command_parts c path)
parts-text c path pieces fits =
    text-append (bytes_or_none (command_options c)) (bytes_or_none (path_of c) ++ path) (piece-text (command_options c) pieces.0)
    (text-append (bytes_or_none (path_of c)) path (piece-text (path_of c) pieces.1) fits)
