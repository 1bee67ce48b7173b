-- The forms of the lines from line 5 on, by their fixed words and the number of their words (this project's own format):
--     d open <a>                     c <caller> start <call> <word> <path>[ <name>=<value>]..
--     d data <a> <hexadecimal>       c <caller> pick <call> <word>
--     d lost <a>                     c <caller> commit <call>
--     d time <ms>
--     d endpoint <address> <state>
--     d sweep
-- and before each of them, as the first word, `@` and the number of a line, or no such word.
use Rattle.std.specs.Prelude.{ℕ, List, [], ◌∷◌, codes, Option, Some, None, if◌then◌else◌}
use Rattle.std.specs.Str.{bytes_eq}
use Rattle.xds_name.specs.NameTexts.{after}

-- a form with its words
pub data Form : Type 0 where
  opened : (authority : List ℕ) → Form
  bytes : (authority digits : List ℕ) → Form
  lost : (authority : List ℕ) → Form
  moment : (time : List ℕ) → Form
  endpoint : (address state : List ℕ) → Form
  sweep : Form
  start : (caller call word path : List ℕ) → (fields : List (List ℕ)) → Form
  pick : (caller call word : List ℕ) → Form
  commit : (caller call : List ℕ) → Form

-- ---- what the driver does, by how many words follow

abbrev pub with_none : List ℕ → Option Form
with_none verb = if bytes_eq verb (codes "sweep") then Some sweep else None

abbrev pub with_one : List ℕ → List ℕ → Option Form
with_one verb word =
    if bytes_eq verb (codes "open") then Some (opened word)
    else if bytes_eq verb (codes "lost") then Some (lost word)
    else if bytes_eq verb (codes "time") then Some (moment word)
    else None

abbrev pub with_two : List ℕ → List ℕ → List ℕ → Option Form
with_two verb first second =
    if bytes_eq verb (codes "data") then Some (bytes first second)
    else if bytes_eq verb (codes "endpoint") then Some (endpoint first second)
    else None

unfoldable pub driver_form : List ℕ → List (List ℕ) → Option Form
driver_form verb [] = with_none verb
driver_form verb (word ∷ []) = with_one verb word
driver_form verb (first ∷ second ∷ []) = with_two verb first second
driver_form verb (first ∷ second ∷ third ∷ more) = None

-- ---- what a caller does, by how many words follow

abbrev pub commit_form : List ℕ → List ℕ → List ℕ → Option Form
commit_form caller verb call = if bytes_eq verb (codes "commit") then Some (commit caller call) else None

abbrev pub pick_form : List ℕ → List ℕ → List ℕ → List ℕ → Option Form
pick_form caller verb call word = if bytes_eq verb (codes "pick") then Some (pick caller call word) else None

abbrev pub start_form : List ℕ → List ℕ → List ℕ → List ℕ → List ℕ → List (List ℕ) → Option Form
start_form caller verb call word path fields =
    if bytes_eq verb (codes "start") then Some (start caller call word path fields) else None

unfoldable pub caller_form : List ℕ → List ℕ → List (List ℕ) → Option Form
caller_form caller verb [] = None
caller_form caller verb (call ∷ []) = commit_form caller verb call
caller_form caller verb (call ∷ word ∷ []) = pick_form caller verb call word
caller_form caller verb (call ∷ word ∷ path ∷ fields) = start_form caller verb call word path fields

-- ---- whose line it is

abbrev pub of_caller : List (List ℕ) → Option Form
of_caller [] = None
of_caller (caller ∷ []) = None
of_caller (caller ∷ verb ∷ words) = caller_form caller verb words

abbrev pub of_driver : List (List ℕ) → Option Form
of_driver [] = None
of_driver (verb ∷ words) = driver_form verb words

-- the form of a line's words without the gate
unfoldable pub form_of : List (List ℕ) → Option Form
form_of [] = None
form_of (actor ∷ words) =
    if bytes_eq actor (codes "d") then of_driver words
    else if bytes_eq actor (codes "c") then of_caller words
    else None

-- ---- the gate

-- what follows the `@` of the first word, if it begins with one, and the other words
abbrev pub gate_or_word : List ℕ → List (List ℕ) → Option (List ℕ) → Option (List ℕ) × List (List ℕ)
gate_or_word word words None = (None, word ∷ words)
gate_or_word word words (Some gate) = (Some gate, words)

unfoldable pub gate_in : List (List ℕ) → Option (List ℕ) × List (List ℕ)
gate_in [] = (None, [])
gate_in (word ∷ words) = gate_or_word word words (after (codes "@") word)
