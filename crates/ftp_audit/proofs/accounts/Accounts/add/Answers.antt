use Rattle.std.proofs.Common.{◌≡◌, refl, ◌∙◌, sym, ap, subst, ℕ, Bool, true, false, cond, List, [], ◌∷◌, ◌++◌, Some, None}
use Rattle.std.specs.Str.{bytes_eq}
use Rattle.std.proofs.lemmas.Result.{on_ok_weaker, on_err_weaker}
use Rattle.ftp_base.specs.declared.notice.Notice.{Notice}
use Rattle.ftp_audit.specs.declared.account.Mark.{Mark}
use Rattle.ftp_audit.specs.Totals.{told}
use Rattle.ftp_audit.specs.Marks.{next, UpTo}
use Rattle.ftp_audit.specs.Names.{named}
use Rattle.ftp_audit.specs.Users.{marks_of, with_told}
use Rattle.ftp_audit.proofs.ByName.{same_name}
use Rattle.ftp_audit.proofs.UserLemmas.{Users, marks-found, marks-written, marks-put}
use Rattle.ftp_audit.proofs.accounts.Accounts.add.Goals as goal

pub add-requires : goal.add-requires
add-requires c =
    let found = marks-found c.self.inside.users.entries c.args.user.now c.args.user.now (Some c.in-Some.account.now) refl c.in-Some.ensures.value in
    subst (UpTo c.args.place) (ap (λ (us : List (List ℕ × List Mark)). marks_of us c.args.user.now) (sym c.self.view_is) ∙ found) (c.requires c.args.user.now)

-- where the marks of the user grew, those under each name are what is due
grown :
    (place : ℕ) (users : Users) (old : List (List ℕ × List Mark)) (user : List ℕ) (what : Notice) (had marks : List Mark) (new : Users) →
    named users ≡ old → marks_of (named users) user ≡ had → marks ≡ had ++ next had place (told what) ∷ [] →
    ((name : List ℕ) → marks_of (named new) name ≡ cond (bytes_eq user name) marks (marks_of (named users) name)) →
    (name : List ℕ) → marks_of (named new) name ≡ with_told place user what name (marks_of old name)
grown place users old user what had marks new view was more h name =
    h name ∙ (go (bytes_eq user name) refl ∙ ap (λ (us : List (List ℕ × List Mark)). with_told place user what name (marks_of us name)) view)
  where
    own : List ℕ → List Mark
    own n = marks_of (named users) n

    go : (b : Bool) → bytes_eq user name ≡ b → cond b marks (own name) ≡ cond b (own name ++ next (own name) place (told what) ∷ []) (own name)
    go true e =
        let same : user ≡ name = same_name user name e in
        more ∙ ap (λ (ms : List Mark). ms ++ next ms place (told what) ∷ []) (sym was ∙ ap own same)
    go false e = refl

-- where they did not, nothing did
kept :
    (users : Users) (old : List (List ℕ × List Mark)) (user : List ℕ) (had marks : List Mark) (new : Users) →
    named users ≡ old → marks_of (named users) user ≡ had → marks ≡ had →
    ((name : List ℕ) → marks_of (named new) name ≡ cond (bytes_eq user name) marks (marks_of (named users) name)) →
    (name : List ℕ) → marks_of (named new) name ≡ marks_of old name
kept users old user had marks new view was none h name =
    h name ∙ (go (bytes_eq user name) refl ∙ ap (λ (us : List (List ℕ × List Mark)). marks_of us name) view)
  where
    go : (b : Bool) → bytes_eq user name ≡ b → cond b marks (marks_of (named users) name) ≡ marks_of (named users) name
    go true e = none ∙ (sym was ∙ ap (marks_of (named users)) (same_name user name e))
    go false e = refl

pub returns-in-Some-clause-added : goal.returns-in-Some-clause-added
returns-in-Some-clause-added c =
    let found = marks-found c.self.inside.users.entries c.args.user.now c.args.user.now (Some c.in-Some.account.now) refl c.in-Some.ensures.value in
    let written = marks-written c.self.inside.users.entries (c.get_mut.follows.lender c.add.new.self).entries c.args.user.now c.args.user.now c.in-Some.account.now c.add.new.self refl c.in-Some.ensures.value (c.get_mut.follows.holds c.add.new.self).0 in
    on_ok_weaker c.add.result (λ more.
    grown c.args.place c.self.inside.users.entries c.args.self.now c.args.user.now c.args.what.now c.in-Some.account.now c.add.new.self (c.get_mut.follows.lender c.add.new.self).entries c.self.view_is found more written) c.add.ensures.added

pub returns-in-Some-clause-unchanged : goal.returns-in-Some-clause-unchanged
returns-in-Some-clause-unchanged c =
    let found = marks-found c.self.inside.users.entries c.args.user.now c.args.user.now (Some c.in-Some.account.now) refl c.in-Some.ensures.value in
    let written = marks-written c.self.inside.users.entries (c.get_mut.follows.lender c.add.new.self).entries c.args.user.now c.args.user.now c.in-Some.account.now c.add.new.self refl c.in-Some.ensures.value (c.get_mut.follows.holds c.add.new.self).0 in
    on_err_weaker c.add.result (λ none.
    kept c.self.inside.users.entries c.args.self.now c.args.user.now c.in-Some.account.now c.add.new.self (c.get_mut.follows.lender c.add.new.self).entries c.self.view_is found none written) c.add.ensures.unchanged

pub returns-clause-added : goal.returns-clause-added
returns-clause-added c =
    let found = marks-found c.self.inside.users.entries c.args.user.now c.args.user.now None refl c.in_default.ensures.value in
    let none = c.get_mut.follows.holds-at-none in
    let put = marks-put c.self.inside.users.entries c.insert.new.self.entries c.in_ok-name.name c.args.user.now c.add-2.new.self c.in_ok-name.ensures.items (rw none at c.in_ok-insert.ensures.entries) in
    grown c.args.place c.self.inside.users.entries c.args.self.now c.args.user.now c.args.what.now [] c.add-2.new.self c.insert.new.self.entries c.self.view_is found
    (rw c.new-account.ensures at c.in_ok-add.ensures.added) put
