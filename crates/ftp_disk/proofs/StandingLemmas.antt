-- What was told of the places on the way to one.
use Rattle.std.proofs.Common.{◌≡◌, ◌∙◌, ℕ, ◌+◌, ◌<◌, List, [], ◌∷◌, length, take, Ok, Err, refl, ap, subst, arith}
use Rattle.std.proofs.lemmas.List.{length-take-le}
use Rattle.std.proofs.Math.Seq.{take-length}
use Rattle.ftp_places.specs.Place.{Location, below_by}
use Rattle.ftp_disk.specs.declared.standing.Standing.{Standing}
use Rattle.ftp_disk.specs.declared.standing.Standing.TheVariants.{Nothing, Directory, File}
use Rattle.ftp_disk.specs.FileSystem.{Answer, Told, front_of, IsNoLink, WasFile, WasFileOrNothing}
use Rattle.ftp_disk.specs.Standing.{ShowsStanding, Stood}

-- where something is told to stand, a link is not
pub IsNoLink-told : (answer : Answer) (standing : Standing) → ShowsStanding answer standing → IsNoLink answer
IsNoLink-told (Ok found) Nothing h = absurd h
IsNoLink-told (Ok found) Directory h = λ link. omega arith
IsNoLink-told (Ok found) (File len) h = λ link. omega (arith, h.0)
IsNoLink-told (Err error) standing h = tt

-- the front of all names is the place
front-whole : (place : Location) (n : ℕ) → n ≡ length place.names → front_of place n ≡ place
front-whole place n e = ap (λ names. below_by place.root names) (ap (λ k. take k place.names) e ∙ take-length place.names)

-- what was told of a place was told of the front that it is
pub told-front : (told : Told) (place at : Location) (n : ℕ) (answer : Answer) → at ≡ front_of place n → told at answer → told (front_of place n) answer
told-front told place at n answer e said = subst (λ (p : Location). told p answer) e said

-- the root stands without a look
pub Stood-root : (told : Told) (place : Location) → Stood told (front_of place 0) Directory
Stood-root told place = record { root = λ e. refl; below = λ lt. absurd (omega arith) }

-- what stands at the next front, as is told of it
pub Stood-next : (told : Told) (place : Location) (n : ℕ) (answer : Answer) (standing : Standing) → n < length place.names →
    told (front_of place (n + 1)) answer → ShowsStanding answer standing → Stood told (front_of place (n + 1)) standing
Stood-next told place n answer standing lt said tells =
    let len : length (take (n + 1) place.names) ≡ n + 1 = length-take-le (n + 1) place.names (omega arith) in
    record { root = λ e. absurd (omega (arith, len, ap length e)); below = λ some. (answer, said, tells) }

-- what stands at the front of all names stands at the place
pub Stood-whole : (told : Told) (place : Location) (n : ℕ) (standing : Standing) → n ≡ length place.names →
    Stood told (front_of place n) standing → Stood told place standing
Stood-whole told place n standing e h = subst (λ (p : Location). Stood told p standing) (front-whole place n e) h

-- a file stood where one was told of
pub WasFile-stood : (told : Told) (place : Location) (len : ℕ) → Stood told place (File len) → WasFile told place
WasFile-stood told place len h = go place.names refl
  where
    from : ((answer : Answer) × told place answer × ShowsStanding answer (File len)) → WasFile told place
    from (Ok found, said, shows) = (found, said, shows.0)
    from (Err error, said, shows) = absurd shows

    go : (names : List (List ℕ)) → place.names ≡ names → WasFile told place
    go [] e = absurd (let d : File len ≡ Directory = h.root e in cc)
    go (name ∷ names) e = from (h.below (omega (arith, ap length e)))

-- a file or nothing stood where a file was told of
pub WasFileOrNothing-file : (told : Told) (place : Location) (len : ℕ) → Stood told place (File len) → WasFileOrNothing told place
WasFileOrNothing-file told place len h =
    let was : WasFile told place = WasFile-stood told place len h in (Ok was.0, was.1, was.2)
