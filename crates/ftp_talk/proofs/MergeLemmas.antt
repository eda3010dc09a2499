-- What is said on lines stands between the replies.
use Rattle.std.proofs.Common.{◌≡◌, Bool, true, false, List, [], ◌∷◌, ◌++◌, Option, Some, None, refl, sym, ap, subst, ◌∙◌, inl, inr}
use Rattle.std.proofs.lemmas.List.{append-nil}
use Rattle.ftp_extras.specs.declared.extra.Extra.{Extra}
use Rattle.ftp_extras.specs.declared.extra.Extra.TheVariants as extra
use Rattle.ftp_talk.specs.ExtendedLaws.{IsMerged, said_on_lines, replies_in_form, HasNoEpsv, SaysReplies}
use Rattle.ftp_talk.specs.Ground.{Ground}
use Rattle.ftp_talk.specs.Parts.{HeardLine, TalkPart, turns_of, with_said, with_spoken, is_epsv_at, pieces_for, turn_pieces, due_pieces}
use Rattle.ftp_talk.specs.Pieces.{Pieces}
use Rattle.ftp_talk.specs.Talk.{due_replies}
use Rattle.ftp_talk.specs.Turns.{is_end}

-- pieces of one list alone, and of the other
merged-first : (c : Pieces) → IsMerged c [] c
merged-first [] = (refl, refl)
merged-first (p ∷ c) = inl (c, refl, merged-first c)

merged-second : (c : Pieces) → IsMerged [] c c
merged-second [] = (refl, refl)
merged-second (p ∷ c) = inr (c, refl, merged-second c)

-- pieces more of the first list go behind all, and of the second
merged-more : (a b c more : Pieces) → IsMerged a b c → IsMerged (a ++ more) b (c ++ more)
merged-more a b [] more m =
    subst (λ (x : Pieces). IsMerged (x ++ more) b more) (sym m.0) (subst (λ (x : Pieces). IsMerged more x more) (sym m.1) (merged-first more))
merged-more a b (p ∷ c) more (inl m) = inl (m.0 ++ more, ap (λ (x : Pieces). x ++ more) m.1, merged-more m.0 b c more m.2)
merged-more a b (p ∷ c) more (inr m) = inr (m.0, m.1, merged-more a m.0 c more m.2)

merged-last : (a b c more : Pieces) → IsMerged a b c → IsMerged a (b ++ more) (c ++ more)
merged-last a b [] more m =
    subst (λ (x : Pieces). IsMerged a (x ++ more) more) (sym m.1) (subst (λ (x : Pieces). IsMerged x more more) (sym m.0) (merged-second more))
merged-last a b (p ∷ c) more (inl m) = inl (m.0, m.1, merged-last m.0 b c more m.2)
merged-last a b (p ∷ c) more (inr m) = inr (m.0 ++ more, ap (λ (x : Pieces). x ++ more) m.1, merged-last a m.0 c more m.2)

-- what is said behind a turn
with-said-last : (y : Extra) (pieces : Pieces) → with_said y pieces ≡ pieces ++ with_said y []
with-said-last extra.Pass pieces = sym (append-nil pieces)
with-said-last (extra.As other) pieces = sym (append-nil pieces)
with-said-last extra.Epsv pieces = sym (append-nil pieces)
with-said-last (extra.Tell m) pieces = sym (append-nil pieces)
with-said-last (extra.Say bytes) pieces = refl

with-more-last : (h : Option HeardLine) (over : Bool) (pieces : Pieces) → with_spoken h over pieces ≡ pieces ++ with_spoken h over []
with-more-last None over pieces = sym (append-nil pieces)
with-more-last (Some x) true pieces = sym (append-nil pieces)
with-more-last (Some x) false pieces = with-said-last x.extra pieces

-- what is said behind the replies, between them and what was said on lines
says-between : (g : Ground) (ps : List TalkPart) → IsMerged (replies_in_form g ps) (said_on_lines ps) (due_pieces g ps)
says-between g [] = (refl, refl)
says-between g (p ∷ ps) =
    let over = is_end p.turn.entry.decision in
    let more = with_spoken p.heard over [] in
    let turn = pieces_for g (is_epsv_at p.heard) p.turn in
    let pieces = due_pieces g ps ++ turn in
    let replies = replies_in_form g ps ++ turn in
    let said1 = merged-more (replies_in_form g ps) (said_on_lines ps) (due_pieces g ps) turn (says-between g ps) in
    subst (IsMerged replies (said_on_lines ps ++ more)) (sym (with-more-last p.heard over pieces))
    (merged-last replies (said_on_lines ps) pieces more said1)

-- without an EPSV the replies are those of a talk
in-form-plain : (g : Ground) (ps : List TalkPart) → HasNoEpsv ps → replies_in_form g ps ≡ due_replies g (turns_of ps)
in-form-plain g [] none = refl
in-form-plain g (p ∷ ps) none =
    let t = p.turn in
    ap (λ (b : Bool). replies_in_form g ps ++ pieces_for g b t) none.0
    ∙ ap (λ (x : Pieces). x ++ turn_pieces g t) (in-form-plain g ps none.1)

-- the law
pub says-merged : SaysReplies
says-merged g ps = (says-between g ps, in-form-plain g ps)
