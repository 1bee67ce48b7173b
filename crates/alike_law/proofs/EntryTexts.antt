-- The text of entries is one of whole lines, and begins with a number.
use Rattle.std.proofs.Common.{◌≡◌, ℕ, ◌+◌, ◌<◌, ◌≤◌, List, [], ◌∷◌, ◌++◌, All, length, true, false, eqb, Option, Some, None, codes, refl, sym, ap, subst, ◌∙◌, append_assoc, append-nil, arith}
use Rattle.std.specs.Fmt.{decimal}
use Rattle.std.specs.List.{onto_first}
use Rattle.std.proofs.lemmas.List.Elements.{All-head, All-tail}
use Rattle.xds_bootstrap.specs.declared.bootstrap.AuthorityEntry.{AuthorityEntry}
use Rattle.cluster_tree.specs.declared.snapshot.Snapshot.{Snapshot}
use Rattle.call_journal.specs.declared.reply.DriverReply.{DriverReply}
use Rattle.call_journal.specs.declared.reply.Sent.{Sent}
use Rattle.call_journal.specs.declared.entry.Entry.{Entry}
use Rattle.call_journal.specs.declared.entry.What.{What}
use Rattle.session_lines.specs.Lines.{lines_of}
use Rattle.tree_text.specs.Escapes.{escaped}
use Rattle.report_parts.specs.ReportWords.{authority_text}
use Rattle.report_parts.specs.Driver.{driver_line, event_text, missing_text, outcome_text}
use Rattle.report_parts.specs.RequestText.{pattern_line, request_line, request_text}
use Rattle.report_parts.specs.Snapshots.{clusters_from, front_text, snapshot_line, snapshot_lines}
use Rattle.report_parts.specs.Callers.{caller_event_text, caller_line, caller_reply_text}
use Rattle.report_compare.specs.report_text.EntryText.{entry_line, entry_lines, more_lines, pattern_lines, reply_lines, request_lines, what_line}
use Rattle.report_compare.specs.report_text.ReportLines.{Shown, end_line, entries_text, head_line}
use Rattle.report_turns.specs.TurnLines.{goes_on}
use Rattle.report_compare.proofs.text_law.Texts.{lacks}
use Rattle.report_compare.proofs.text_law.TextLemmas.{decimal_lacks, decimal_nonempty}
use Rattle.alike_law.proofs.WholeTexts.{EndsLine, IsWhole, ends, ends_behind, ends_whole, other_line, whole_both, whole_nothing}

-- ---- whole lines

pattern_ends : (pattern : List ℕ) → EndsLine (pattern_line pattern)
unfolding pattern_line
pattern_ends pattern = ends (codes "  pat " ++ escaped pattern)

patterns_whole : (patterns : List (List ℕ)) → IsWhole (pattern_lines patterns)
unfolding pattern_lines
patterns_whole [] = whole_nothing
patterns_whole (p ∷ ps) = whole_both (pattern_line p) (pattern_lines ps) (ends_whole (pattern_line p) (pattern_ends p)) (patterns_whole ps)

request_ends : (authorities : List AuthorityEntry) (sent : Sent) → EndsLine (request_line authorities sent)
unfolding request_line
request_ends authorities sent = ends (codes "  req " ++ authority_text authorities sent.authority ++ codes " " ++ request_text sent.request)

requests_whole : (authorities : List AuthorityEntry) (sent : List Sent) → IsWhole (request_lines authorities sent)
unfolding request_lines
requests_whole authorities [] = whole_nothing
requests_whole authorities (x ∷ xs) =
    whole_both (request_line authorities x) (request_lines authorities xs) (ends_whole (request_line authorities x) (request_ends authorities x)) (requests_whole authorities xs)

snapshot_ends : (s : Snapshot) → EndsLine (snapshot_line s)
unfolding snapshot_line
snapshot_ends s = ends (codes "  snap " ++ decimal s.number ++ codes " front=" ++ front_text s.config.front ++ clusters_from s.trees 0 s.config.clusters)

snapshot_whole : (snapshot : Option Snapshot) → IsWhole (snapshot_lines snapshot)
snapshot_whole None = whole_nothing
snapshot_whole (Some s) = ends_whole (snapshot_line s) (snapshot_ends s)

reply_whole : (authorities : List AuthorityEntry) (s : Option Snapshot) (r : DriverReply) → IsWhole (reply_lines authorities s r)
unfolding reply_lines
reply_whole authorities s r =
    whole_both (pattern_lines r.refused ++ request_lines authorities r.sent) (snapshot_lines s)
    (whole_both (pattern_lines r.refused) (request_lines authorities r.sent) (patterns_whole r.refused) (requests_whole authorities r.sent)) (snapshot_whole s)

pub more_whole : (authorities : List AuthorityEntry) (s : Option Snapshot) (what : What) → IsWhole (more_lines authorities s what)
more_whole authorities s (What.Driver event r) = reply_whole authorities s r
more_whole authorities s (What.Caller event r) = whole_nothing

what_ends : (authorities : List AuthorityEntry) (s : Option Snapshot) (c : Option (List ℕ)) (actor : ℕ) (what : What) → EndsLine (what_line authorities s c actor what)
unfolding driver_line caller_line
what_ends authorities s c actor (What.Driver event r) =
    ends (codes "d " ++ event_text authorities event ++ codes " " ++ outcome_text event r.verdict ++ missing_text r.missing)
what_ends authorities s c actor (What.Caller event r) =
    ends (codes "c" ++ decimal actor ++ codes " " ++ caller_event_text event ++ codes " " ++ caller_reply_text s c r)

entry_line_ends : (authorities : List AuthorityEntry) (s : Option Snapshot) (c : Option (List ℕ)) (n : ℕ) (e : Entry) → EndsLine (entry_line authorities s c n e)
unfolding entry_line
entry_line_ends authorities s c n e =
    ends_behind (decimal n ++ codes " " ++ decimal e.line ++ codes " ") (what_line authorities s c e.actor e.what) (what_ends authorities s c e.actor e.what)

entry_line_whole : (authorities : List AuthorityEntry) (s : Option Snapshot) (c : Option (List ℕ)) (n : ℕ) (e : Entry) → IsWhole (entry_line authorities s c n e)
entry_line_whole authorities s c n e = ends_whole (entry_line authorities s c n e) (entry_line_ends authorities s c n e)

entry_whole : (authorities : List AuthorityEntry) (s : Option Snapshot) (c : Option (List ℕ)) (n : ℕ) (e : Entry) → IsWhole (entry_lines authorities s c n e)
unfolding entry_lines
entry_whole authorities s c n e =
    whole_both (entry_line authorities s c n e) (more_lines authorities s e.what) (entry_line_whole authorities s c n e) (more_whole authorities s e.what)

entries_whole : (authorities : List AuthorityEntry) (n : ℕ) (xs : List Shown) → IsWhole (entries_text authorities n xs)
unfolding entries_text
entries_whole authorities n [] = whole_nothing
entries_whole authorities n (x ∷ xs) =
    whole_both (entry_lines authorities x.snapshot x.cluster n x.entry) (entries_text authorities (n + 1) xs)
    (entry_whole authorities x.snapshot x.cluster n x.entry) (entries_whole authorities (n + 1) xs)

head_whole : IsWhole head_line
unfolding head_line
head_whole = ends_whole head_line (ends (codes "xds-report 1"))

-- ---- what an entry has behind its first line

-- whole lines, and then this text
pub record EndsWith (text more : List ℕ) : Type 0 where
  pub front : List ℕ
  pub whole : IsWhole front
  pub is : text ≡ front ++ more

ends_with_behind : (before text more : List ℕ) → IsWhole before → EndsWith text more → EndsWith (before ++ text) more
ends_with_behind before text more whole h = record {
  front = before ++ h.front;
  whole = whole_both before h.front whole h.whole;
  is = ap (λ (t : List ℕ). before ++ t) h.is ∙ sym (append_assoc before h.front more);
}

pub split_text : (authorities : List AuthorityEntry) (n : ℕ) (xs ys : List Shown)
    → entries_text authorities n (xs ++ ys) ≡ entries_text authorities n xs ++ entries_text authorities (n + length xs) ys
unfolding entries_text
split_text authorities n [] ys =
    let count : n ≡ n + 0 = omega arith in
    ap (λ (m : ℕ). entries_text authorities m ys) count
split_text authorities n (x ∷ xs) ys =
    let first : List ℕ = entry_lines authorities x.snapshot x.cluster n x.entry in
    let here : List ℕ = entries_text authorities (n + 1) xs in
    let count : n + 1 + length xs ≡ n + length (x ∷ xs) = omega arith in
    ap (λ (t : List ℕ). first ++ t) (split_text authorities (n + 1) xs ys ∙ ap (λ (m : ℕ). here ++ entries_text authorities m ys) count)
    ∙ sym (append_assoc first here (entries_text authorities (n + length (x ∷ xs)) ys))

one_entry : (authorities : List AuthorityEntry) (n : ℕ) (x : Shown)
    → entries_text authorities n (x ∷ []) ≡ entry_line authorities x.snapshot x.cluster n x.entry ++ more_lines authorities x.snapshot x.entry.what
unfolding entries_text entry_lines
one_entry authorities n x = append-nil (entry_line authorities x.snapshot x.cluster n x.entry ++ more_lines authorities x.snapshot x.entry.what)

entries_end : (authorities : List AuthorityEntry) (n : ℕ) (xs : List Shown) (x : Shown) → EndsWith (entries_text authorities n (xs ++ x ∷ [])) (more_lines authorities x.snapshot x.entry.what)
entries_end authorities n xs x =
    let first : List ℕ = entries_text authorities n xs in
    let line : List ℕ = entry_line authorities x.snapshot x.cluster (n + length xs) x.entry in
    let more : List ℕ = more_lines authorities x.snapshot x.entry.what in
    record {
      front = first ++ line;
      whole = whole_both first line (entries_whole authorities n xs) (entry_line_whole authorities x.snapshot x.cluster (n + length xs) x.entry);
      is = split_text authorities n xs (x ∷ []) ∙ (ap (λ (t : List ℕ). first ++ t) (one_entry authorities (n + length xs) x) ∙ sym (append_assoc first line more));
    }

-- behind the first line of the newest entry, and behind a report's first line
pub newest_end : (authorities : List AuthorityEntry) (xs : List Shown) (x : Shown)
    → EndsWith (head_line ++ entries_text authorities 1 (xs ++ x ∷ [])) (more_lines authorities x.snapshot x.entry.what)
newest_end authorities xs x =
    ends_with_behind head_line (entries_text authorities 1 (xs ++ x ∷ [])) (more_lines authorities x.snapshot x.entry.what) head_whole (entries_end authorities 1 xs x)

pub head_end : (authorities : List AuthorityEntry) → EndsWith (head_line ++ entries_text authorities 1 []) []
unfolding entries_text
head_end authorities = record {
  front = head_line;
  whole = head_whole;
  is = refl;
}

-- ---- lines that don't go on

-- a text begins with a byte that is no line feed and no space
pub record BeginsLine (text : List ℕ) : Type 0 where
  pub first : ℕ
  pub rest : List ℕ
  pub is : text ≡ first ∷ rest
  pub no_feed : eqb first 10 ≡ false
  pub no_space : eqb first 32 ≡ false

begins_more : (x y : List ℕ) → BeginsLine x → BeginsLine (x ++ y)
begins_more x y h = record {
  first = h.first;
  rest = h.rest ++ y;
  is = ap (λ (t : List ℕ). t ++ y) h.is;
  no_feed = h.no_feed;
  no_space = h.no_space;
}

begins_by : (text : List ℕ) → 0 < length text → lacks 10 text ≡ true → lacks 32 text ≡ true → BeginsLine text
begins_by [] some h k = absurd (omega (arith, some))
begins_by (b ∷ bs) some h k =
    let feed : eqb b 10 ≡ false = grind (arith, h) in
    let space : eqb b 32 ≡ false = grind (arith, k) in
    record { first = b; rest = bs; is = refl; no_feed = feed; no_space = space }

begins_number : (n : ℕ) → BeginsLine (decimal n)
begins_number n = begins_by (decimal n) (decimal_nonempty n) (decimal_lacks 10 n (omega arith)) (decimal_lacks 32 n (omega arith))

begins_entry_line : (authorities : List AuthorityEntry) (s : Option Snapshot) (c : Option (List ℕ)) (n : ℕ) (e : Entry) → BeginsLine (entry_line authorities s c n e)
unfolding entry_line
begins_entry_line authorities s c n e =
    begins_more (decimal n ++ codes " " ++ decimal e.line ++ codes " ") (what_line authorities s c e.actor e.what)
    (begins_more (decimal n ++ codes " " ++ decimal e.line) (codes " ") (begins_more (decimal n ++ codes " ") (decimal e.line) (begins_more (decimal n) (codes " ") (begins_number n))))

begins_entry : (authorities : List AuthorityEntry) (s : Option Snapshot) (c : Option (List ℕ)) (n : ℕ) (e : Entry) → BeginsLine (entry_lines authorities s c n e)
unfolding entry_lines
begins_entry authorities s c n e = begins_more (entry_line authorities s c n e) (more_lines authorities s e.what) (begins_entry_line authorities s c n e)

begins_end : (entries snapshots : ℕ) → BeginsLine (end_line entries snapshots)
unfolding end_line
begins_end entries snapshots = record {
  first = 101;
  rest = codes "nd " ++ decimal entries ++ codes " " ++ decimal snapshots ++ codes "\n";
  is = refl;
  no_feed = refl;
  no_space = refl;
}

-- further entries with the last line, and the last line alone
pub begins_later : (authorities : List AuthorityEntry) (n : ℕ) (xs : List Shown) (entries snapshots : ℕ) → BeginsLine (entries_text authorities n xs ++ end_line entries snapshots)
unfolding entries_text
begins_later authorities n [] entries snapshots = begins_end entries snapshots
begins_later authorities n (x ∷ xs) entries snapshots =
    let first : List ℕ = entry_lines authorities x.snapshot x.cluster n x.entry in
    begins_more (first ++ entries_text authorities (n + 1) xs) (end_line entries snapshots)
    (begins_more first (entries_text authorities (n + 1) xs) (begins_entry authorities x.snapshot x.cluster n x.entry))

-- lines of which the first one doesn't go on
pub record BeginsFresh (lines : List (List ℕ)) : Type 0 where
  pub line : List ℕ
  pub more : List (List ℕ)
  pub is : lines ≡ line ∷ more
  pub on : goes_on line ≡ false

stops : (b : ℕ) (bs : List ℕ) → eqb b 32 ≡ false → goes_on (b ∷ bs) ≡ false
stops b bs is = rw is refl

onto_fresh : (b : ℕ) (lines : List (List ℕ)) → eqb b 32 ≡ false → BeginsFresh (onto_first b lines)
onto_fresh b [] is = record { line = b ∷ []; more = []; is = refl; on = stops b [] is }
onto_fresh b (x ∷ xs) is = record { line = b ∷ x; more = xs; is = refl; on = stops b x is }

pub fresh_lines : (text : List ℕ) → BeginsLine text → BeginsFresh (lines_of text)
fresh_lines text h =
    subst BeginsFresh (sym (ap lines_of h.is ∙ other_line h.first h.rest h.no_feed)) (onto_fresh h.first (lines_of h.rest) h.no_space)

-- lines that go on stand before the first one that doesn't
pub stand_before : (lines more common other : List (List ℕ)) (line : List ℕ) → lines ++ line ∷ more ≡ common ++ other → goes_on line ≡ false → All (λ l. goes_on l ≡ true) common
    → length common ≤ length lines
stand_before lines more [] other line is fresh on = omega arith
stand_before [] more (c ∷ cs) other line is fresh on =
    let same : line ≡ c = cc is in
    let both : true ≡ false = sym (All-head (λ l. goes_on l ≡ true) c cs on) ∙ (ap goes_on (sym same) ∙ fresh) in
    absurd (cc both)
stand_before (x ∷ xs) more (c ∷ cs) other line is fresh on =
    let rest : xs ++ line ∷ more ≡ cs ++ other = cc is in
    let less : length cs ≤ length xs = stand_before xs more cs other line rest fresh (All-tail (λ l. goes_on l ≡ true) c cs on) in
    omega (arith, less)
