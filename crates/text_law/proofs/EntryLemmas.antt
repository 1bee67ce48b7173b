-- What is read from the text of one entry: its actor, and the patterns that were refused.
use Rattle.std.proofs.Common.{◌≡◌, ℕ, ◌<◌, ◌^◌, List, [], ◌∷◌, ◌++◌, true, false, All, Option, Some, None, codes, get_or, refl, sym, ap, ◌∙◌, arith, append_assoc}
use Rattle.std.proofs.lemmas.List.{append_cancel_left}
use Rattle.std.proofs.lemmas.List.Elements.{All-head, All-tail}
use Rattle.std.specs.Str.{IsUtf8}
use Rattle.std.specs.Fmt.{decimal}
use Rattle.std.proofs.lemmas.Fmt.{decimal_injective}
use Rattle.xc_base.specs.declared.names.Key.{Key}
use Rattle.xds_bootstrap.specs.declared.bootstrap.AuthorityEntry.{AuthorityEntry}
use Rattle.legal_history.specs.cluster_tree.declared.snapshot.Snapshot.{Snapshot}
use Rattle.ads_stream.specs.declared.verdict.Verdict.{Verdict}
use Rattle.call_journal.specs.declared.event.DriverEvent.{DriverEvent}
use Rattle.call_journal.specs.declared.event.BytesHow.{BytesHow}
use Rattle.call_journal.specs.declared.event.CallerEvent.{CallerEvent}
use Rattle.call_journal.specs.declared.reply.CallerReply.{CallerReply}
use Rattle.call_journal.specs.declared.reply.DriverReply.{DriverReply}
use Rattle.call_journal.specs.declared.reply.Sent.{Sent}
use Rattle.call_journal.specs.declared.entry.Entry.{Entry}
use Rattle.xc_base.specs.declared.names.Kind.{Kind}
use Rattle.tree_text.specs.Escapes.{escaped}
use Rattle.report_parts.specs.ReportWords.{kind_word}
use Rattle.report_parts.specs.Driver.{driver_line, event_text, how_text, missing_text, outcome_text, verdict_text}
use Rattle.report_parts.specs.RequestText.{pattern_line, request_line}
use Rattle.report_parts.specs.Snapshots.{snapshot_line, snapshot_lines}
use Rattle.report_parts.specs.Callers.{caller_event_text, caller_line, caller_reply_text}
use Rattle.legal_history.specs.report_text.EntryText.{entry_line, entry_lines, more_lines, pattern_lines, request_lines, reply_lines, what_line}
use Rattle.text_law.proofs.Texts.{lacks, begins_pattern}
use Rattle.text_law.proofs.TextLemmas.{cut_at, decimal_lacks, escaped_injective, escaped_no_feed, lacks-append}

-- ---- refused patterns

pattern_first : (p t : List ℕ) → pattern_line p ++ t ≡ codes "  pat " ++ (escaped p ++ 10 ∷ t)
unfolding pattern_line
pattern_first p t = append_assoc (codes "  pat " ++ escaped p) (codes "\n") t ∙ append_assoc (codes "  pat ") (escaped p) (10 ∷ t)

more_first : (p : List ℕ) (ps : List (List ℕ)) (t : List ℕ) → pattern_lines (p ∷ ps) ++ t ≡ codes "  pat " ++ (escaped p ++ 10 ∷ (pattern_lines ps ++ t))
unfolding pattern_lines
more_first p ps t = append_assoc (pattern_line p) (pattern_lines ps) t ∙ pattern_first p (pattern_lines ps ++ t)

not_pattern : (p : List ℕ) (ps : List (List ℕ)) (t v : List ℕ) → begins_pattern v ≡ false → pattern_lines (p ∷ ps) ++ t ≡ v → ⊥
not_pattern p ps t v other is =
    let both : begins_pattern (codes "  pat " ++ (escaped p ++ 10 ∷ (pattern_lines ps ++ t))) ≡ begins_pattern v = ap begins_pattern (sym (more_first p ps t) ∙ is) in
    let absent : true ≡ false = both ∙ other in
    absurd (cc absent)

-- the patterns before a text that doesn't begin with one
pub patterns_read : (ps qs : List (List ℕ)) (u v : List ℕ) → All IsUtf8 ps → All IsUtf8 qs → begins_pattern u ≡ false → begins_pattern v ≡ false
    → pattern_lines ps ++ u ≡ pattern_lines qs ++ v → ps ≡ qs
unfolding pattern_lines
patterns_read [] [] u v h k no_u no_v is = refl
patterns_read [] (q ∷ qs) u v h k no_u no_v is = absurd (not_pattern q qs v u no_u (sym is))
patterns_read (p ∷ ps) [] u v h k no_u no_v is = absurd (not_pattern p ps u v no_v is)
patterns_read (p ∷ ps) (q ∷ qs) u v h k no_u no_v is =
    let both = append_cancel_left (codes "  pat ") _ _ (sym (more_first p ps u) ∙ (is ∙ more_first q qs v)) in
    let parts = cut_at 10 (escaped p) (escaped q) (pattern_lines ps ++ u) (pattern_lines qs ++ v) (escaped_no_feed p) (escaped_no_feed q) both in
    let first : p ≡ q = escaped_injective p q (All-head IsUtf8 p ps h) (All-head IsUtf8 q qs k) parts.0 in
    let more : ps ≡ qs = patterns_read ps qs u v (All-tail IsUtf8 p ps h) (All-tail IsUtf8 q qs k) no_u no_v parts.1 in
    cc (first, more)

-- ---- what stands behind the patterns

request_first : (a : List AuthorityEntry) (sent : Sent) (t : List ℕ) → begins_pattern (request_line a sent ++ t) ≡ false
unfolding request_line
request_first a sent t = refl

requests_first : (a : List AuthorityEntry) (sent : List Sent) (t : List ℕ) → begins_pattern t ≡ false → begins_pattern (request_lines a sent ++ t) ≡ false
unfolding request_lines
requests_first a [] t h = h
requests_first a (x ∷ xs) t h = ap begins_pattern (append_assoc (request_line a x) (request_lines a xs) t) ∙ request_first a x (request_lines a xs ++ t)

snapshot_first : (s : Option Snapshot) (t : List ℕ) → begins_pattern t ≡ false → begins_pattern (snapshot_lines s ++ t) ≡ false
unfolding snapshot_line
snapshot_first None t h = h
snapshot_first (Some s) t h = refl

-- ---- the driver's line

kind_lacks : (kind : Kind) → lacks 10 (kind_word kind) ≡ true
kind_lacks Kind.Listener = refl
kind_lacks Kind.Route = refl
kind_lacks Kind.Cluster = refl
kind_lacks Kind.Endpoint = refl

verdict_lacks : (v : Verdict) → lacks 10 (verdict_text v) ≡ true
verdict_lacks Verdict.Done = refl
verdict_lacks Verdict.Closed = refl
verdict_lacks (Verdict.Ack kind) = kind_lacks kind
verdict_lacks (Verdict.Nack kind) = kind_lacks kind
verdict_lacks Verdict.Ignored = refl
verdict_lacks Verdict.Unreadable = refl

how_lacks : (how : BytesHow) → lacks 10 (how_text how) ≡ true
how_lacks BytesHow.Whole = refl
how_lacks BytesHow.Closed = refl
how_lacks BytesHow.Compressed = refl
how_lacks (BytesHow.TooLong n) = decimal_lacks 10 n (omega arith)
how_lacks BytesHow.Ended = refl

outcome_lacks : (event : DriverEvent) (v : Verdict) → lacks 10 (outcome_text event v) ≡ true
outcome_lacks (DriverEvent.Opened a) v = verdict_lacks v
outcome_lacks (DriverEvent.Response a payload) v = verdict_lacks v
outcome_lacks (DriverEvent.Bytes a how) v = how_lacks how
outcome_lacks (DriverEvent.Lost a) v = verdict_lacks v
outcome_lacks (DriverEvent.Moment t) v = verdict_lacks v
outcome_lacks (DriverEvent.Endpoint address state) v = verdict_lacks v
outcome_lacks DriverEvent.Sweep v = verdict_lacks v

missing_lacks : (key : Option Key) → lacks 10 (missing_text key) ≡ true
missing_lacks None = refl
missing_lacks (Some key) =
    lacks-append 10 (codes " wait " ++ kind_word key.kind ++ codes ":") (escaped key.name)
    (lacks-append 10 (codes " wait " ++ kind_word key.kind) (codes ":") (kind_lacks key.kind) refl) (escaped_no_feed key.name)

-- what became of an event, and what is awaited
abbrev became : DriverEvent → DriverReply → List ℕ
became event r = outcome_text event r.verdict ++ missing_text r.missing

became_lacks : (event : DriverEvent) (r : DriverReply) → lacks 10 (became event r) ≡ true
became_lacks event r = lacks-append 10 (outcome_text event r.verdict) (missing_text r.missing) (outcome_lacks event r.verdict) (missing_lacks r.missing)

-- what stands before it, which the event fixes
abbrev prefix_of : List AuthorityEntry → DriverEvent → List ℕ
prefix_of a event = codes "d " ++ event_text a event ++ codes " "

driver_parts : (a : List AuthorityEntry) (event : DriverEvent) (r : DriverReply) (t : List ℕ) → driver_line a event r ++ t ≡ prefix_of a event ++ (became event r ++ 10 ∷ t)
unfolding driver_line
driver_parts a event r t =
    append_assoc (prefix_of a event ++ outcome_text event r.verdict ++ missing_text r.missing) (codes "\n") t
    ∙ (ap (λ (x : List ℕ). x ++ 10 ∷ t) (append_assoc (prefix_of a event) (outcome_text event r.verdict) (missing_text r.missing))
    ∙ append_assoc (prefix_of a event) (became event r) (10 ∷ t))

reply_parts : (a : List AuthorityEntry) (s : Option Snapshot) (r : DriverReply) (t : List ℕ) → reply_lines a s r ++ t ≡ pattern_lines r.refused ++ (request_lines a r.sent ++ (snapshot_lines s ++ t))
unfolding reply_lines
reply_parts a s r t =
    append_assoc (pattern_lines r.refused ++ request_lines a r.sent) (snapshot_lines s) t ∙ append_assoc (pattern_lines r.refused) (request_lines a r.sent) (snapshot_lines s ++ t)

-- two replies to one event, in one text, refuse the same patterns
pub refused_read : (a : List AuthorityEntry) (s z : Option Snapshot) (event : DriverEvent) (r q : DriverReply) (u v : List ℕ) → All IsUtf8 r.refused → All IsUtf8 q.refused
    → begins_pattern u ≡ false → begins_pattern v ≡ false
    → driver_line a event r ++ (reply_lines a s r ++ u) ≡ driver_line a event q ++ (reply_lines a z q ++ v) → r.refused ≡ q.refused
refused_read a s z event r q u v h k no_u no_v is =
    let both = append_cancel_left (prefix_of a event) _ _ (sym (driver_parts a event r (reply_lines a s r ++ u)) ∙ (is ∙ driver_parts a event q (reply_lines a z q ++ v))) in
    let parts = cut_at 10 (became event r) (became event q) (reply_lines a s r ++ u) (reply_lines a z q ++ v) (became_lacks event r) (became_lacks event q) both in
    patterns_read r.refused q.refused (request_lines a r.sent ++ (snapshot_lines s ++ u)) (request_lines a q.sent ++ (snapshot_lines z ++ v)) h k
    (requests_first a r.sent _ (snapshot_first s u no_u)) (requests_first a q.sent _ (snapshot_first z v no_v))
    (sym (reply_parts a s r u) ∙ (parts.1 ∙ reply_parts a z q v))

-- ---- the actor

abbrev pub tail_of : List AuthorityEntry → Option Snapshot → Option (List ℕ) → Entry → List ℕ → List ℕ
tail_of a s c e u = what_line a s c e.actor e.what ++ (more_lines a s e.what ++ u)

-- an entry's text, behind its number and its line
pub entry_parts : (a : List AuthorityEntry) (s : Option Snapshot) (c : Option (List ℕ)) (n : ℕ) (e : Entry) (u : List ℕ)
    → entry_lines a s c n e ++ u ≡ decimal n ++ 32 ∷ (decimal e.line ++ 32 ∷ tail_of a s c e u)
unfolding entry_lines entry_line
entry_parts a s c n e u =
    let w : List ℕ = what_line a s c e.actor e.what in
    let x : List ℕ = more_lines a s e.what ++ u in
    append_assoc (decimal n ++ codes " " ++ decimal e.line ++ codes " " ++ w) (more_lines a s e.what) u
    ∙ (append_assoc (decimal n ++ codes " " ++ decimal e.line ++ codes " ") w x
    ∙ (append_assoc (decimal n ++ codes " " ++ decimal e.line) (codes " ") (w ++ x)
    ∙ (append_assoc (decimal n ++ codes " ") (decimal e.line) (32 ∷ (w ++ x))
    ∙ append_assoc (decimal n) (codes " ") (decimal e.line ++ 32 ∷ (w ++ x)))))

-- two entries of one number, in one text
pub tails_read : (a : List AuthorityEntry) (s z : Option Snapshot) (c d : Option (List ℕ)) (n : ℕ) (e f : Entry) (u v : List ℕ)
    → entry_lines a s c n e ++ u ≡ entry_lines a z d n f ++ v → tail_of a s c e u ≡ tail_of a z d f v
tails_read a s z c d n e f u v is =
    let both = append_cancel_left (decimal n) _ _ (sym (entry_parts a s c n e u) ∙ (is ∙ entry_parts a z d n f v)) in
    let lines : decimal e.line ++ 32 ∷ tail_of a s c e u ≡ decimal f.line ++ 32 ∷ tail_of a z d f v = cc both in
    (cut_at 32 (decimal e.line) (decimal f.line) (tail_of a s c e u) (tail_of a z d f v) (decimal_lacks 32 e.line (omega arith)) (decimal_lacks 32 f.line (omega arith)) lines).1

-- what stands behind the caller
abbrev after_caller : Option Snapshot → Option (List ℕ) → CallerEvent → CallerReply → List ℕ → List ℕ
after_caller s c event r t = caller_event_text event ++ (codes " " ++ (caller_reply_text s c r ++ 10 ∷ t))

caller_parts : (s : Option Snapshot) (c : Option (List ℕ)) (actor : ℕ) (event : CallerEvent) (r : CallerReply) (t : List ℕ)
    → caller_line s c actor event r ++ t ≡ 99 ∷ (decimal actor ++ 32 ∷ after_caller s c event r t)
unfolding caller_line
caller_parts s c actor event r t =
    append_assoc (codes "c" ++ decimal actor ++ codes " " ++ caller_event_text event ++ codes " " ++ caller_reply_text s c r) (codes "\n") t
    ∙ (append_assoc (codes "c" ++ decimal actor ++ codes " " ++ caller_event_text event ++ codes " ") (caller_reply_text s c r) (10 ∷ t)
    ∙ (append_assoc (codes "c" ++ decimal actor ++ codes " " ++ caller_event_text event) (codes " ") _
    ∙ (append_assoc (codes "c" ++ decimal actor ++ codes " ") (caller_event_text event) _
    ∙ append_assoc (codes "c" ++ decimal actor) (codes " ") _)))

driver_letter : (a : List AuthorityEntry) (event : DriverEvent) (r : DriverReply) (t : List ℕ) → get_or (driver_line a event r ++ t) 0 0 ≡ 100
unfolding driver_line
driver_letter a event r t = refl

-- a driver's entry isn't read as a caller's
pub letters_differ : (a : List AuthorityEntry) (event : DriverEvent) (r : DriverReply) (t : List ℕ) (s : Option Snapshot) (c : Option (List ℕ)) (actor : ℕ) (called : CallerEvent) (q : CallerReply) (x : List ℕ)
    → driver_line a event r ++ t ≡ caller_line s c actor called q ++ x → ⊥
letters_differ a event r t s c actor called q x is =
    let both : 100 ≡ 99 = sym (driver_letter a event r t) ∙ ap (λ (y : List ℕ). get_or y 0 0) (is ∙ caller_parts s c actor called q x) in
    absurd (omega (arith, both))

-- two callers' entries are of one caller
pub callers_read : (s z : Option Snapshot) (c d : Option (List ℕ)) (actor other : ℕ) (event called : CallerEvent) (r q : CallerReply) (t x : List ℕ) → actor < 2 ^ 64 → other < 2 ^ 64
    → caller_line s c actor event r ++ t ≡ caller_line z d other called q ++ x → actor ≡ other
callers_read s z c d actor other event called r q t x lt small is =
    let both = sym (caller_parts s c actor event r t) ∙ (is ∙ caller_parts z d other called q x) in
    let numbers : decimal actor ++ 32 ∷ after_caller s c event r t ≡ decimal other ++ 32 ∷ after_caller z d called q x = cc both in
    decimal_injective actor other lt small (cut_at 32 (decimal actor) (decimal other) (after_caller s c event r t) (after_caller z d called q x) (decimal_lacks 32 actor (omega arith)) (decimal_lacks 32 other (omega arith)) numbers).0
