-- The lines of a report behind its first one, and the turns of actors that they name (this project's own format).
use Rattle.std.specs.Prelude.{◌≡◌, ℕ, ◌^◌, Bool, ◌&&◌, nat_lt, if◌then◌else◌, List, [], ◌∷◌, take, codes, Option, Some, None, option_and_then, option_map}
use Rattle.std.specs.Str.{bytes_eq}
use Rattle.xc_base.specs.Numbers.{number_of}
use Rattle.xds_name.specs.NameTexts.{after}
use Rattle.session_lines.specs.Lines.{lines_of, words_of}
use Rattle.report_turns.specs.declared.entry_turns.EntryTurn.{EntryTurn}
use Rattle.report_turns.specs.declared.entry_turns.Found.{Found}
use Rattle.report_turns.specs.declared.entry_turns.Found.TheVariants.{Entry, Strange, End}

-- whose turn an entry is, and which line of the session it plays
pub record EntryPlace : Type 0 where
  pub actor : ℕ
  pub line : ℕ

-- what a line is: the first one of an entry, one that belongs to no entry and isn't the last one, or the last one
pub data Finding : Type 0 where
  entry : EntryPlace → Finding
  strange : Finding
  end : Finding

-- a line that belongs to the entry above it begins with two spaces
abbrev pub goes_on : List ℕ → Bool
goes_on line = bytes_eq (take 2 line) (codes "  ")

-- the last line of a report begins with `end `
abbrev pub is_last : List ℕ → Bool
is_last line = bytes_eq (take 4 line) (codes "end ")

-- ---- the first line of an entry

-- a line of the session
abbrev pub session_line : ℕ → Option ℕ
session_line n = if nat_lt n (2 ^ 32) then Some n else None

unfoldable pub line_in : List ℕ → Option ℕ
line_in word = option_and_then session_line (number_of word)

-- callers are 1 and more
abbrev pub caller_actor : ℕ → Option ℕ
caller_actor n = if nat_lt 0 n && nat_lt n (2 ^ 16) then Some n else None

-- the actor of a word: `d` is the driver's, 0, and `c` with a number that caller's
unfoldable pub actor_in : List ℕ → Option ℕ
actor_in word =
    if bytes_eq word (codes "d") then Some 0
    else option_and_then caller_actor (option_and_then number_of (after (codes "c") word))

-- the place that these words for the line and the actor say
unfoldable pub place_in : List ℕ → List ℕ → Option EntryPlace
place_in line actor =
    option_and_then (λ number. option_map (λ who. record { actor = who; line = number }) (actor_in actor)) (line_in line)

-- the words are the number of the entry, the line of the session, the actor, and what happens
abbrev pub turn_by : List (List ℕ) → Option EntryPlace
turn_by (number ∷ line ∷ actor ∷ what ∷ more) = place_in line actor
turn_by _ = None

unfoldable pub turn_in : List ℕ → Option EntryPlace
turn_in line = turn_by (words_of line)

-- ---- what is found next

abbrev pub entry_or_strange : Option EntryPlace → Finding
entry_or_strange None = strange
entry_or_strange (Some place) = entry place

-- what a line is that belongs to no entry above it
unfoldable pub finding_at : List ℕ → Finding
finding_at line = if is_last line then end else entry_or_strange (turn_in line)

-- what is found next in lines, and which of them stand behind it
pub record Next : Type 0 where
  pub finding : Finding
  pub behind : List (List ℕ)

-- the lines that go on are passed over, and where no other is left, it is the end
abbrev pub next_of : List (List ℕ) → Next
next_of [] = record { finding = end; behind = [] }
next_of (line ∷ lines) = if goes_on line then next_of lines else record { finding = finding_at line; behind = lines }

-- ---- all that is found, one after another

-- it ends where it is the end, or with a line that is strange
abbrev pub with_more : Finding → List Finding → List Finding
with_more (entry place) more = entry place ∷ more
with_more strange more = strange ∷ []
with_more end more = end ∷ []

abbrev pub findings_in : List (List ℕ) → List Finding
findings_in [] = end ∷ []
findings_in (line ∷ lines) = if goes_on line then findings_in lines else with_more (finding_at line) (findings_in lines)

-- it is what `next_of` finds, and then all that is found behind it
abbrev pub FoundInTurn : Type 0
FoundInTurn =
    (lines : List (List ℕ)) → findings_in lines ≡ with_more (next_of lines).finding (findings_in (next_of lines).behind)

-- ---- what the code finds

abbrev pub turn_place : EntryTurn → EntryPlace
turn_place turn = record { actor = turn.actor; line = turn.line }

abbrev pub seen : Found → Finding
seen (Entry turn) = entry (turn_place turn)
seen Strange = strange
seen End = end

-- what an entry that is found has behind it, as bytes, are these lines
abbrev pub HasBehind : List (List ℕ) → Found → Type 0
HasBehind lines (Entry turn) = lines_of turn.more.now ≡ lines
HasBehind lines Strange = Unit {0}
HasBehind lines End = Unit {0}
