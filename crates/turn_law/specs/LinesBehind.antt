-- What stands in the report of a history behind the first line of each of its entries (this project's own). Histories have the
-- newest entry first: of `later ++ past` the entries `later` come after those of `past`.
use Rattle.std.specs.Prelude.{◌≡◌, ℕ, ◌+◌, Bool, false, List, [], ◌∷◌, ◌++◌, All, codes, drop, length, take, unwrap_or}
use Rattle.std.specs.Str.{bytes_eq}
use Rattle.xds_bootstrap.specs.declared.bootstrap.AuthorityEntry.{AuthorityEntry}
use Rattle.call_journal.specs.declared.entry.Entry.{Entry}
use Rattle.session_lines.specs.Lines.{lines_of}
use Rattle.text_law.specs.report_text.EntryText.{more_lines, pattern_lines}
use Rattle.text_law.specs.report_text.ReportLines.{end_line, entries_text}
use Rattle.report_turns.specs.TurnLines.{end, entry, next_of}
use Rattle.text_law.specs.xds_history.Page.{latest_number}
use Rattle.text_law.specs.xds_history.Pages.{pages}
use Rattle.text_law.specs.xds_history.Responses.{refused_in}
use Rattle.text_law.specs.xds_history.Setting.{Setting}
use Rattle.text_law.specs.xds_history.declared.page.Page.{Page}
use Rattle.text_law.specs.legal_history.Report.{named_in, report, shown_entries}
use Rattle.turn_law.specs.TurnLaw.{IsTurn, place_of}

-- the lines of the newest page's entry behind its first one
abbrev pub newest_more_lines : List AuthorityEntry → List Page → List ℕ
newest_more_lines authorities [] = []
newest_more_lines authorities (p ∷ before) = more_lines authorities (named_in p before p.entry.what) p.entry.what

-- the text of the report of pages behind so many of the oldest entries: the later ones, and the last line
abbrev pub later_text : List AuthorityEntry → ℕ → List Page → List ℕ
later_text authorities number ps =
    entries_text authorities (number + 1) (drop number (shown_entries ps)) ++ end_line (length (shown_entries ps)) (unwrap_or (latest_number ps) 0)

-- the lines of the report of `later ++ past` behind the first lines of the entries `past`: what goes on in the newest of
-- these, then the entries `later`, then the last line; where there is no past, all lines but the report's first one
abbrev pub lines_behind : Setting → List AuthorityEntry → List Entry → List Entry → List (List ℕ)
lines_behind s authorities later past =
    lines_of (newest_more_lines authorities (pages s past) ++ later_text authorities (length past) (pages s (later ++ past)))

-- the line of a refused pattern begins so
abbrev pub is_pattern : List ℕ → Bool
is_pattern text = bytes_eq (take 6 text) (codes "  pat ")

-- the lines begin with those of these patterns, and no line of a pattern comes next
pub record ListsPatterns (patterns : List (List ℕ)) (lines : List (List ℕ)) : Type 0 where
  pub rest : List ℕ
  pub begins : lines ≡ lines_of (pattern_lines patterns ++ rest)
  pub ends : is_pattern rest ≡ false

-- what is found in a report, entry by entry
pub record IsReadInTurn (s : Setting) (authorities : List AuthorityEntry) (history : List Entry) : Type 0 where
  -- at first all lines are left but the report's first one
  pub first : lines_behind s authorities history [] ≡ drop 1 (lines_of (report s authorities history))
  -- the oldest entry that is left is found next, and then the lines behind its first one are left
  pub next : (later : List Entry) (e : Entry) (past : List Entry) → later ++ e ∷ past ≡ history
      → next_of (lines_behind s authorities (later ++ e ∷ []) past) ≡ record { finding = entry (place_of e); behind = lines_behind s authorities later (e ∷ past) }
  -- behind the newest entry the end is found
  pub last : (next_of (lines_behind s authorities [] history)).finding ≡ end
  -- the lines behind the first one of an entry begin with the patterns that it tells as refused
  pub listed : (later : List Entry) (e : Entry) (past : List Entry) → later ++ e ∷ past ≡ history
      → ListsPatterns (refused_in e.what) (lines_behind s authorities later (e ∷ past))

-- the report of each history of turns is read so
abbrev pub EntriesInTurn : Type 0
EntriesInTurn = (s : Setting) (authorities : List AuthorityEntry) (history : List Entry) → All IsTurn history → IsReadInTurn s authorities history
