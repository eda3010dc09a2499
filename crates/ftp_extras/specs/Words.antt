-- The words that clients send beside the profile's, which are read without regard to case.
use Rattle.std.specs.Prelude.{ℕ, Bool, true, false, List, [], ◌∷◌, codes, Option}
use Rattle.std.specs.Map.{lookup}
use Rattle.std.specs.Str.{str_eq_ignore_ascii_case}
use Rattle.ftp_extras.specs.declared.word.ExtraWord.{ExtraWord}
use Rattle.ftp_extras.specs.declared.word.ExtraWord.TheVariants as word

-- all of them, as they are spelled
abbrev pub extra_words : List (List ℕ × ExtraWord)
extra_words =
    (codes "pwd", word.Pwd) ∷ (codes "xpwd", word.Xpwd) ∷ (codes "cdup", word.Cdup) ∷ (codes "xcup", word.Xcup)
    ∷ (codes "mkd", word.Mkd) ∷ (codes "xmkd", word.Xmkd) ∷ (codes "rmd", word.Rmd) ∷ (codes "xrmd", word.Xrmd)
    ∷ (codes "dele", word.Dele) ∷ (codes "rnfr", word.Rnfr) ∷ (codes "rnto", word.Rnto) ∷ (codes "size", word.Size)
    ∷ (codes "mdtm", word.Mdtm) ∷ (codes "mfmt", word.Mfmt) ∷ (codes "mlst", word.Mlst) ∷ (codes "feat", word.Feat)
    ∷ (codes "opts", word.Opts) ∷ (codes "syst", word.Syst) ∷ (codes "stat", word.Stat) ∷ (codes "help", word.Help)
    ∷ (codes "allo", word.Allo) ∷ (codes "mode", word.Mode) ∷ (codes "stru", word.Stru) ∷ (codes "epsv", word.Epsv)
    ∷ (codes "stou", word.Stou) ∷ (codes "clnt", word.Clnt) ∷ (codes "pbsz", word.Pbsz) ∷ (codes "prot", word.Prot) ∷ []

-- the word that these bytes spell
abbrev pub extra_word_of : List ℕ → Option ExtraWord
extra_word_of bytes = lookup (λ name. str_eq_ignore_ascii_case name bytes) extra_words

-- the word is answered before the login too: it tells what the server can do, or how the connection is protected
abbrev pub is_open_word : ExtraWord → Bool
is_open_word word.Feat = true
is_open_word word.Opts = true
is_open_word word.Syst = true
is_open_word word.Help = true
is_open_word word.Clnt = true
is_open_word word.Pbsz = true
is_open_word word.Prot = true
is_open_word _ = false
