-- What is said in pieces.
use Rattle.std.proofs.Common.{◌≡◌, ℕ, ◌+◌, ◌-◌, ◌<◌, ◌≤◌, List, [], ◌∷◌, ◌++◌, length, take, drop, get_or, Option, Some, None, refl, sym, ap, subst, ◌∙◌, append_assoc, arith}
use Rattle.std.specs.Prelude.{IfSome, Result, Ok, Err, OnOk}
use Rattle.std.proofs.lemmas.List.{append-nil, take-append-drop, take_more}
use Rattle.std.proofs.lemmas.List.Concat.{flat_map-append}
use Rattle.std.proofs.lemmas.List.Elements.{filter_map-append}
use Rattle.ftp_base.specs.declared.reply.Reply.{Reply}
use Rattle.ftp_base.specs.Edge.{Feed, EdgeView, Takes}
use Rattle.ftp_base.specs.Outside.{Writes}
use Rattle.ftp_base.specs.Reply.{encoding}
use Rattle.ftp_events.specs.declared.action.Action.{Action}
use Rattle.ftp_events.specs.Right.{reply_to}
use Rattle.ftp_control.specs.Writing.{WritesFront}
use Rattle.ftp_shared.specs.Outbox.{replies_in}
use Rattle.ftp_talk.specs.Pieces.{Pieces, pieces_of, piece_text, piece_delays, SaysPieces, Says}
use Rattle.ftp_talk.specs.Saying.{IsPaused}
use Rattle.ftp_control.proofs.WritingLemmas.{front-all, front-more, front-whole, writes-more}

-- ---- what is paused

pub paused-none : (old new : ℕ) → new ≡ old → IsPaused 0 old new
paused-none old new is = λ lt. omega (arith, is)

pub paused-more : (m n old mid new : ℕ) → IsPaused m old mid → IsPaused n mid new → IsPaused (m + n) old new
paused-more m n old mid new first second = λ lt. omega (arith, second lt, first (omega (arith, lt, second lt)))

-- ---- lists of pieces

pub delays-pieces : (a b : Pieces) → piece_delays (a ++ b) ≡ piece_delays a + piece_delays b
delays-pieces [] b = let none : piece_delays b ≡ 0 + piece_delays b = omega arith in none
delays-pieces (p ∷ a) b =
    let assoc : p.0 + (piece_delays a + piece_delays b) ≡ (p.0 + piece_delays a) + piece_delays b = omega arith in
    ap (λ (n : ℕ). p.0 + n) (delays-pieces a b) ∙ assoc

pub text-pieces : (a b : Pieces) → piece_text (a ++ b) ≡ piece_text a ++ piece_text b
text-pieces a b = flat_map-append (λ p. p.1) a b

text-behind : (w : List ℕ) (a b : Pieces) → (w ++ piece_text a) ++ piece_text b ≡ w ++ piece_text (a ++ b)
text-behind w a b = append_assoc w (piece_text a) (piece_text b) ∙ ap (λ (x : List ℕ). w ++ x) (sym (text-pieces a b))

pub replies-pieces : (a b : List (ℕ × Reply)) → pieces_of (a ++ b) ≡ pieces_of a ++ pieces_of b
replies-pieces [] b = refl
replies-pieces (r ∷ a) b = ap (λ (x : Pieces). (r.0, encoding r.1) ∷ x) (replies-pieces a b)

-- one piece
pub text-one : (bytes : List ℕ) → piece_text ((0, bytes) ∷ []) ≡ bytes
text-one bytes = append-nil bytes

-- ---- what was said

-- pieces behind those of a talk: their text and their delays
pub wrote-pieces : (old now new : Option (List ℕ)) (w : List ℕ) (a b : Pieces) → Writes old now (w ++ piece_text a) → Writes now new (piece_text b) → Writes old new (w ++ piece_text (a ++ b))
wrote-pieces old now new w a b first second = subst (Writes old new) (text-behind w a b) (writes-more old now new (w ++ piece_text a) (piece_text b) first second)

pub paused-pieces : (old mid mid1 new : ℕ) (a b : Pieces) → IsPaused (piece_delays a) old mid → mid1 ≡ mid → IsPaused (piece_delays b) mid1 new → IsPaused (piece_delays (a ++ b)) old new
paused-pieces old mid mid1 new a b first same second =
    subst (λ (n : ℕ). IsPaused n old new) (sym (delays-pieces a b))
    (paused-more (piece_delays a) (piece_delays b) old mid new first (subst (λ (m : ℕ). IsPaused (piece_delays b) m new) same second))

-- pieces were said, and then a part of others
pub pieces-behind : (old now new : Option (List ℕ)) (before mid after : ℕ) (w : List ℕ) (a b : Pieces) →
    Writes old now (w ++ piece_text a) → IsPaused (piece_delays a) before mid → SaysPieces now new mid after [] b → SaysPieces old new before after w (a ++ b)
pieces-behind old now new before mid after w a b first paused h =
    record {
      begun = a ++ h.begun;
      left = h.left;
      parts = append_assoc a h.begun h.left ∙ ap (λ (x : Pieces). a ++ x) h.parts;
      written = subst (WritesFront old new) (text-behind w a h.begun) (front-more old now new (w ++ piece_text a) (piece_text h.begun) first h.written);
      millis = piece_delays a + h.millis;
      least = omega (arith, h.least, delays-pieces a h.begun);
      most = omega (arith, h.most, delays-pieces a b);
      paused = paused-more (piece_delays a) h.millis before mid after paused h.paused;
    }

-- a part of what is due is one of what is due with more behind it
pub pieces-longer : (old new : Option (List ℕ)) (before after : ℕ) (w : List ℕ) (a b : Pieces) → SaysPieces old new before after w a → SaysPieces old new before after w (a ++ b)
pieces-longer old new before after w a b h =
    record {
      begun = h.begun;
      left = h.left ++ b;
      parts = sym (append_assoc h.begun h.left b) ∙ ap (λ (x : Pieces). x ++ b) h.parts;
      written = h.written;
      millis = h.millis;
      least = h.least;
      most = omega (arith, h.most, delays-pieces a b);
      paused = h.paused;
    }

-- all was said
pub pieces-all : (old new : Option (List ℕ)) (before after : ℕ) (w : List ℕ) (pieces : Pieces) →
    Writes old new (w ++ piece_text pieces) → IsPaused (piece_delays pieces) before after → SaysPieces old new before after w pieces
pieces-all old new before after w pieces wrote paused =
    record {
      begun = pieces;
      left = [];
      parts = append-nil pieces;
      written = front-all old new (w ++ piece_text pieces) wrote;
      millis = piece_delays pieces;
      least = omega arith;
      most = omega arith;
      paused = paused;
    }

-- a part of the text before the pieces was sent
pub pieces-none : (old new : Option (List ℕ)) (before after : ℕ) (w : List ℕ) (pieces : Pieces) →
    WritesFront old new w → after ≡ before → SaysPieces old new before after w pieces
pieces-none old new before after w pieces wrote same =
    let none : 0 ≤ 0 = omega arith in
    record {
      begun = [];
      left = pieces;
      parts = refl;
      written = subst (WritesFront old new) (sym (append-nil w)) wrote;
      millis = 0;
      least = none;
      most = omega arith;
      paused = paused-none before after same;
    }

-- nothing was paused since
pub pieces-still : (old new : Option (List ℕ)) (before after after1 : ℕ) (w : List ℕ) (pieces : Pieces) →
    after1 ≡ after → SaysPieces old new before after w pieces → SaysPieces old new before after1 w pieces
pieces-still old new before after after1 w pieces same h = subst (λ (n : ℕ). SaysPieces old new before n w pieces) (sym same) h

-- a part of the bytes of one piece was sent
pub piece-front : (old new : Option (List ℕ)) (at : ℕ) (bytes : List ℕ) → WritesFront old new bytes → SaysPieces old new at at [] ((0, bytes) ∷ [])
piece-front old new at bytes wrote =
    let none : 0 ≤ 0 = omega arith in
    record {
      begun = (0, bytes) ∷ [];
      left = [];
      parts = refl;
      written = subst (WritesFront old new) (sym (text-one bytes)) wrote;
      millis = 0;
      least = none;
      most = none;
      paused = paused-none at at refl;
    }

-- ---- a text that waits

-- one part and then another
pub says-more : (old now new : Option (List ℕ)) (before mid after : ℕ) (w b c : List ℕ) (pieces more : Pieces) →
    Says old now before mid w b pieces → Says now new mid after b c more → Says old new before after w c (pieces ++ more)
says-more old now new before mid after w b c pieces more first second =
    record {
      gone = first.gone ++ second.gone;
      written = writes-more old now new first.gone second.gone first.written second.written;
      text = append_assoc first.gone second.gone c ∙ ap (λ (x : List ℕ). first.gone ++ x) second.text ∙ sym (append_assoc first.gone b (piece_text more))
          ∙ ap (λ (x : List ℕ). x ++ piece_text more) first.text ∙ text-behind w pieces more;
      paused = paused-pieces before mid mid after pieces more first.paused refl second.paused;
    }

-- what waits is sent
pub says-flushed : (old now new : Option (List ℕ)) (before mid : ℕ) (w b : List ℕ) (pieces : Pieces) →
    Says old now before mid w b pieces → Writes now new b → Writes old new (w ++ piece_text pieces)
says-flushed old now new before mid w b pieces first second = subst (Writes old new) first.text (writes-more old now new first.gone b first.written second)

-- a part of what waits, and of what comes behind it, is said
pub says-behind : (old now new : Option (List ℕ)) (before mid after : ℕ) (w b : List ℕ) (pieces more : Pieces) →
    Says old now before mid w b pieces → SaysPieces now new mid after b more → SaysPieces old new before after w (pieces ++ more)
says-behind old now new before mid after w b pieces more first h =
    record {
      begun = pieces ++ h.begun;
      left = h.left;
      parts = append_assoc pieces h.begun h.left ∙ ap (λ (x : Pieces). pieces ++ x) h.parts;
      written =
          subst (WritesFront old new)
          (sym (append_assoc first.gone b (piece_text h.begun)) ∙ ap (λ (x : List ℕ). x ++ piece_text h.begun) first.text ∙ text-behind w pieces h.begun)
          (front-more old now new first.gone (b ++ piece_text h.begun) first.written h.written);
      millis = piece_delays pieces + h.millis;
      least = omega (arith, h.least, delays-pieces pieces h.begun);
      most = omega (arith, h.most, delays-pieces pieces more);
      paused = paused-more (piece_delays pieces) h.millis before mid after first.paused h.paused;
    }

-- a part of what waits is sent
pub says-cut : (old now new : Option (List ℕ)) (before mid : ℕ) (w b : List ℕ) (pieces : Pieces) →
    Says old now before mid w b pieces → WritesFront now new b → SaysPieces old new before mid w pieces
says-cut old now new before mid w b pieces first second =
    subst (SaysPieces old new before mid w) (append-nil pieces)
    (says-behind old now new before mid mid w b pieces [] first (pieces-none now new mid mid b [] second refl))

-- a delay was paused, and then its bytes wait; or they do not
pub says-paused : (old new : Option (List ℕ)) (before after delay : ℕ) (w b bytes : List ℕ) →
    Says old new before after w b ((delay, []) ∷ []) → Says old new before after w (b ++ bytes) ((delay, bytes) ∷ [])
says-paused old new before after delay w b bytes h =
    record {
      gone = h.gone;
      written = h.written;
      text = sym (append_assoc h.gone b bytes) ∙ ap (λ (x : List ℕ). x ++ bytes) (h.text ∙ append-nil w) ∙ ap (λ (x : List ℕ). w ++ x) (sym (append-nil bytes));
      paused = h.paused;
    }

pub says-unsaid : (old new : Option (List ℕ)) (before after delay : ℕ) (w b bytes : List ℕ) →
    Says old new before after w b ((delay, []) ∷ []) → SaysPieces old new before after w ((delay, bytes) ∷ [])
says-unsaid old new before after delay w b bytes h =
    record {
      begun = [];
      left = (delay, bytes) ∷ [];
      parts = refl;
      written = subst (WritesFront old new) h.text (front-whole old new h.gone b h.written);
      millis = delay;
      least = omega arith;
      most = omega arith;
      paused = subst (λ (n : ℕ). IsPaused n before after) (omega arith) h.paused;
    }

-- ---- a loop over what is said

-- the pieces of an element more were said, or wait
pub says-next : {X : Type 0} (f : List X → Pieces) (xs : List X) (i : ℕ) (d : X) (old now new : Option (List ℕ)) (before mid after : ℕ) (w b c : List ℕ) →
    ((x y : List X) → f (x ++ y) ≡ f x ++ f y) → i < length xs →
    Says old now before mid w b (f (take i xs)) → Says now new mid after b c (f (get_or xs i d ∷ [])) → Says old new before after w c (f (take (i + 1) xs))
says-next f xs i d old now new before mid after w b c parts lt first second =
    let next = ap f (take_more xs i d lt) ∙ parts (take i xs) (get_or xs i d ∷ []) in
    subst (Says old new before after w c) (sym next) (says-more old now new before mid after w b c _ _ first second)

-- a part of them was said
pub says-up-to : {X : Type 0} (f : List X → Pieces) (xs : List X) (i : ℕ) (d : X) (old now new : Option (List ℕ)) (before mid after : ℕ) (w b : List ℕ) →
    ((x y : List X) → f (x ++ y) ≡ f x ++ f y) → i < length xs →
    Says old now before mid w b (f (take i xs)) → SaysPieces now new mid after b (f (get_or xs i d ∷ [])) → SaysPieces old new before after w (f xs)
says-up-to f xs i d old now new before mid after w b parts lt first second =
    let next = ap f (take_more xs i d lt) ∙ parts (take i xs) (get_or xs i d ∷ []) in
    let all = sym (parts (take (i + 1) xs) (drop (i + 1) xs)) ∙ ap f (take-append-drop (i + 1) xs) in
    subst (SaysPieces old new before after w) all
    (pieces-longer old new before after w (f (take (i + 1) xs)) (f (drop (i + 1) xs))
    (subst (SaysPieces old new before after w) (sym next) (says-behind old now new before mid after w b _ _ first second)))

-- the pieces of the replies among actions
pub replies-parts : (s : ℕ) (a b : List Action) → pieces_of (replies_in (a ++ b) s) ≡ pieces_of (replies_in a s) ++ pieces_of (replies_in b s)
replies-parts s a b = ap pieces_of (filter_map-append (reply_to s) a b) ∙ replies-pieces (replies_in a s) (replies_in b s)

-- ---- the edge

-- two calls that take nothing
pub takes-on : (old mid new : EdgeView) → Takes (λ f. f) old mid → Takes (λ f. f) mid new → Takes (λ f. f) old new
takes-on old mid new first second =
    record {
      feed = feed old.feed first.feed;
      meaning = second.meaning ∙ first.meaning;
      count = omega (arith, first.count, second.count);
    } where
      feed : (o : Option Feed) → IfSome o (λ f. mid.feed ≡ Some f) → IfSome o (λ f. new.feed ≡ Some f)
      feed None h = tt
      feed (Some f) h = subst (λ (o : Option Feed). IfSome o (λ f. new.feed ≡ Some f)) h second.feed

-- ---- what follows from what is said of a result

pub on_ok : {T E P : Type 0} (r : Result T E) → P → OnOk r P
on_ok (Ok x) p = p
on_ok (Err e) p = tt
