-- Worked examples: lines and what they ask for, each by computation.
use Rattle.std.proofs.Common.{◌≡◌, ℕ, ◌-◌, ◌^◌, List, [], ◌∷◌, ◌++◌, map, Option, Some, None, Result, Ok, Err, refl}
use Rattle.std.specs.Prelude.{codes}
use Rattle.std.specs.Str.{is_utf8, chars}
use Rattle.std.specs.Fmt.{digits}
use lib.Utf8.{encode}
use Rattle.ftp_base.specs.declared.command.DataChanCmd.TheVariants as move
use Rattle.ftp_control.specs.declared.command.Command.{Command}
use Rattle.ftp_control.specs.declared.command.Command.TheVariants as command
use Rattle.ftp_control.specs.declared.line.LineError.{LineError}
use Rattle.ftp_control.specs.declared.line.LineError.TheVariants as error
use Rattle.ftp_control.specs.Parameter.{without_nul, behind_options}
use Rattle.ftp_control.specs.Line.{parsed}

-- a text as a line
abbrev ended : List ℕ → List ℕ
ended text = text ++ 13 ∷ 10 ∷ []

-- what each of these lines asks for
abbrev Parses : List (List ℕ × Result Command LineError) → Type 0
Parses rows = map (λ row. parsed row.0) rows ≡ map (λ row. row.1) rows

-- a password
abbrev pass : List ℕ → Result Command LineError
pass password = Ok (command.Pass (record { 0 = password }))

-- a listing of a path
abbrev list : Option (List ℕ) → Result Command LineError
list path = Ok (command.Data (move.List None path))

-- where a line ends
the_end_of_a_line : Parses (
    (codes "USER Dolores" ++ 13 ∷ [], Err error.InvalidEol) ∷  -- no line feed
    ([], Err error.InvalidEol) ∷  -- nothing
    (codes "USER Dolores" ++ 10 ∷ [], Ok (command.User (codes "Dolores"))) ∷  -- no carriage return
    (ended (codes "USER a" ++ 10 ∷ codes "b"), Ok (command.User (codes "a" ++ 10 ∷ codes "b"))) ∷  -- earlier line feed
    (ended (codes "USER a" ++ 13 ∷ codes "b"), Ok (command.User (codes "a" ++ 13 ∷ codes "b"))) ∷  -- earlier carriage return
    (ended (codes "USER a" ++ 13 ∷ []), Ok (command.User (codes "a" ++ 13 ∷ []))) ∷  -- two carriage returns
    [])
unfolding is_utf8 chars encode without_nul
the_end_of_a_line = refl

-- bytes that are no text
bytes_that_are_no_text : Parses (
    (ended (codes "USER " ++ 255 ∷ []), Err error.Utf8) ∷  -- no text
    (codes "USER " ++ 255 ∷ [], Err error.InvalidEol) ∷  -- no text without line feed
    (ended (codes "QUIT " ++ 255 ∷ []), Err error.Utf8) ∷  -- no text in a bad parameter
    (ended (codes "USER " ++ 195 ∷ 169 ∷ []), Ok (command.User (195 ∷ 169 ∷ []))) ∷  -- two bytes of text
    [])
unfolding is_utf8 chars encode without_nul
bytes_that_are_no_text = refl

-- how the word is read
the_word : Parses (
    (ended (codes "uSeR Dolores"), Ok (command.User (codes "Dolores"))) ∷  -- in any case
    (ended (codes "USER" ++ 9 ∷ codes "Dolores x"), Ok (command.Other (codes "USER" ++ 9 ∷ codes "Dolores"))) ∷  -- a tab belongs to it
    (ended [], Ok (command.Other [])) ∷  -- no word
    (ended (codes "sIte x"), Ok (command.Other (codes "sIte"))) ∷  -- as it was sent
    (ended (codes "PASV" ++ 13 ∷ 0 ∷ []), Ok (command.Other (codes "PASV" ++ 13 ∷ 0 ∷ []))) ∷  -- a NUL in it
    [])
unfolding is_utf8 chars encode without_nul
the_word = refl

-- what is read of a parameter
the_parameter : Parses (
    (ended (codes "USER"), Err error.InvalidCommand) ∷  -- missing
    (ended (codes "USER "), Err error.InvalidCommand) ∷  -- empty
    (ended (codes "CWD  a"), Ok (command.Cwd (codes " a"))) ∷  -- one space is skipped
    (ended (codes "RETR a" ++ 13 ∷ 0 ∷ codes "b"), Ok (command.Data (move.Retr (codes "a" ++ 13 ∷ codes "b")))) ∷  -- a NUL behind a carriage return
    (ended (codes "RETR " ++ 13 ∷ 0 ∷ 0 ∷ []), Ok (command.Data (move.Retr (13 ∷ 0 ∷ [])))) ∷  -- one NUL alone goes
    (ended (codes "RETR " ++ 13 ∷ 13 ∷ 0 ∷ []), Ok (command.Data (move.Retr (13 ∷ 13 ∷ [])))) ∷  -- two carriage returns
    (ended (codes "RETR a" ++ 0 ∷ []), Ok (command.Data (move.Retr (codes "a" ++ 0 ∷ [])))) ∷  -- a NUL by itself
    (codes "RETR a" ++ 13 ∷ 0 ∷ 10 ∷ [], Ok (command.Data (move.Retr (codes "a" ++ 13 ∷ [])))) ∷  -- the end of the line goes first
    (ended (codes "PASS"), pass []) ∷  -- no password
    (ended (codes "PASS "), pass []) ∷  -- empty password
    (ended (codes "PASS  a b "), pass (codes " a b ")) ∷  -- spaces in a password
    [])
unfolding is_utf8 chars encode without_nul
the_parameter = refl

-- commands without a parameter
commands_without_a_parameter : Parses (
    (ended (codes "PASV"), Ok command.Pasv) ∷  -- bare
    (ended (codes "PASV "), Ok command.Pasv) ∷  -- with one space
    (ended (codes "PASV  "), Err error.InvalidCommand) ∷  -- with two spaces
    (ended (codes "QUIT x"), Err error.InvalidCommand) ∷  -- quit with a parameter
    (ended (codes "bye"), Ok command.Quit) ∷  -- bye is quit
    (ended (codes "TYPE"), Ok command.TypeCmd) ∷  -- any type
    [])
unfolding is_utf8 chars encode without_nul
commands_without_a_parameter = refl

-- the options of a listing
the_options_of_a_listing : Parses (
    (ended (codes "LIST -la -- folder with space"), list (Some (codes "folder with space"))) ∷  -- behind two hyphens
    (ended (codes "LIST -a  -b"), list (Some (codes " -b"))) ∷  -- behind two spaces
    (ended (codes "LIST - a"), list (Some (codes "a"))) ∷  -- a hyphen alone
    (ended (codes "LIST -- -a"), list (Some (codes "-a"))) ∷  -- hyphens after the two
    (ended (codes "LIST a -b"), list (Some (codes "a -b"))) ∷  -- hyphens in the path
    (ended (codes "LIST -la -a"), list None) ∷  -- options alone
    (ended (codes "NLST -a"), Ok (command.Data (move.Nlst (Some (codes "-a"))))) ∷  -- no options of names
    (ended (codes "MLSD"), Ok (command.Data (move.Mlsd None))) ∷  -- no path
    [])
unfolding is_utf8 chars encode without_nul behind_options
the_options_of_a_listing = refl

-- the number to restart at
the_number_to_restart_at : Parses (
    (ended (codes "REST 1303343"), Ok (command.Rest 1303343)) ∷  -- an offset
    (ended (codes "REST 0"), Ok (command.Rest 0)) ∷  -- zero offset
    (ended (codes "REST 18446744073709551615"), Ok (command.Rest (2 ^ 64 - 1))) ∷  -- the largest
    (ended (codes "REST 18446744073709551616"), Err error.InvalidCommand) ∷  -- above the largest
    (ended (codes "REST 1303 343"), Err error.InvalidCommand) ∷  -- two numbers
    (ended (codes "REST 007"), Err error.InvalidCommand) ∷  -- leading zeros
    (ended (codes "REST +7"), Err error.InvalidCommand) ∷  -- with a sign
    (ended (codes "REST"), Err error.InvalidCommand) ∷  -- no offset
    [])
unfolding is_utf8 chars encode without_nul digits
the_number_to_restart_at = refl
