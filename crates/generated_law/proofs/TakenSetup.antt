-- Lines 1 to 12 of the generated session, taken.
use Rattle.std.proofs.Common.{◌≡◌, ℕ, ◌+◌, ◌*◌, ◌==◌, ◌<◌, ◌≤◌, List, [], ◌∷◌, ◌++◌, true, false, Some, None, Result, Ok, codes, length, reverse, refl, sym, ap, ◌∙◌, append_assoc, arith}
use Rattle.std.proofs.lemmas.Bool.Decides.{nat_tests}
use Rattle.std.proofs.lemmas.List.{reverse-append}
use Rattle.std.proofs.lemmas.List.Sums.{sum_by-cons}
use Rattle.hex.specs.Hex.{encode_lower, lower_digits}
use Rattle.hex.proofs.HexLemmas.{decode_of-encode_lower, length-encode_with}
use Rattle.xc_base.specs.Addresses.{address_in}
use Rattle.xc_base.specs.declared.names.State.{State}
use Rattle.grpc_framing.specs.Framing.{frame}
use Rattle.session_lines.specs.Before.{data_len, data_lens, driver_lines}
use Rattle.session_lines.specs.Forms as form
use Rattle.session_lines.specs.Forms.{driver_form, form_of, gate_in}
use Rattle.session_lines.specs.Lines.{lines_of}
use Rattle.session_lines.specs.Session.{◌>>=◌, Refusal, head_of, lines_from, session_with}
use Rattle.session_lines.specs.WordValues.{bytes_in, default}
use Rattle.session_lines.specs.Works.{work_of}
use Rattle.session_lines.specs.declared.session.DriverLine.{DriverLine}
use Rattle.session_lines.specs.declared.session.Line.{Line}
use Rattle.session_lines.specs.declared.session.Session.{Session}
use Rattle.session_lines.specs.declared.session.Work.{Work}
use Rattle.session_lines.specs.declared.session_head.Head.{Head}
use Rattle.session_generator.specs.FirstLines.{cluster_response, data_line, endpoint_response, first_lines, listener_response, ready_line}
use Rattle.generated_law.specs.GeneratedSession.{driven, generated_boot, generated_target, setup_lines}
use Rattle.generated_law.proofs.HeadRows.{boot_is, callers_is, header_is, target_is}
use Rattle.generated_law.proofs.LineRows.{cluster_bytes, cluster_length, endpoint_bytes, endpoint_length, first_address, fourth_address, is_default, is_ready, listener_bytes, listener_length, second_address, third_address}
use Rattle.generated_law.proofs.PlainTexts.{ArePlain, are_bytes, byte_at, hex_plain, is_plain_word, spaced}
use Rattle.generated_law.proofs.TakenLines.{Takes, in_range, line_read, no_gate}
use Rattle.generated_law.proofs.TakenCalls.{four_callers, words_taken}
use Rattle.generated_law.proofs.StandingLines.{Stands, stands_driven, stands_first}

abbrev pub head : Head
head = four_callers generated_boot generated_target

-- ---- lines 1 to 4

-- the session that lines spell
abbrev pub read_from : List (List ℕ) → Result Session Refusal
read_from lines = head_of lines >>= λ head. lines_from head.0 [] 5 head.1 >>= λ lines. session_with head.0 lines

-- the text has lines 1 to 4 and these lines, and then line m
abbrev pub Begins : List ℕ → List Line → ℕ → Type 0
Begins text lines m = (rest : List ℕ) → read_from (lines_of (text ++ rest)) ≡ (lines_from head (reverse lines) m (lines_of rest) >>= λ lines. session_with head lines)

abbrev four_lines : List ℕ
four_lines = codes "xds-session 1\n" ++ codes "boot {\"xds_servers\":[{\"server_uri\":\"ms:1\"}],\"node\":{\"id\":\"n\"}}\n" ++ codes "target xds:///svc\n" ++ codes "callers 4\n"

four_cut : (rest : List ℕ) → lines_of (four_lines ++ rest) ≡ codes "xds-session 1" ∷ codes "boot {\"xds_servers\":[{\"server_uri\":\"ms:1\"}],\"node\":{\"id\":\"n\"}}" ∷ codes "target xds:///svc" ∷ codes "callers 4" ∷ lines_of rest
unfolding lines_of
four_cut rest = refl

head_is : (lines : List (List ℕ)) → head_of (codes "xds-session 1" ∷ codes "boot {\"xds_servers\":[{\"server_uri\":\"ms:1\"}],\"node\":{\"id\":\"n\"}}" ∷ codes "target xds:///svc" ∷ codes "callers 4" ∷ lines) ≡ Ok (head, lines)
unfolding head_of
head_is lines = rw (header_is, boot_is, target_is, callers_is) refl

begins_head : Begins four_lines [] 5
begins_head rest =
    let cut : head_of (lines_of (four_lines ++ rest)) ≡ Ok (head, lines_of rest) = ap head_of (four_cut rest) ∙ head_is (lines_of rest) in
    ap (λ found. found >>= λ head. lines_from head.0 [] 5 head.1 >>= λ lines. session_with head.0 lines) cut

pub begins_then : (a b : List ℕ) (xs ys : List Line) (k m : ℕ) → Begins a xs k → Takes head (reverse xs) k b ys m → Begins (a ++ b) (xs ++ ys) m
begins_then a b xs ys k m first second rest =
    ap (λ text. read_from (lines_of text)) (append_assoc a b rest)
    ∙ first (b ++ rest)
    ∙ ap (λ found. found >>= λ lines. session_with head lines) (second rest ∙ ap (λ lines. lines_from head lines m (lines_of rest)) (sym (reverse-append xs ys)))

-- ---- lines 5 to 12, each

open_works : (before : List Line) → work_of generated_boot 4 before (form.opened (codes "-")) ≡ Ok (Work.Driver (DriverLine.Opened default))
unfolding work_of
open_works before = rw is_default refl

bytes_read : (bytes : List ℕ) → are_bytes bytes ≡ true → 0 < length bytes → bytes_in (encode_lower bytes) ≡ Some bytes
unfolding bytes_in
bytes_read bytes are some =
    let long : length (encode_lower bytes) ≡ 2 * length bytes = length-encode_with lower_digits bytes in
    let more : (length (encode_lower bytes) == 0) ≡ false = grind (arith, nat_tests, long, some) in
    rw (more, decode_of-encode_lower bytes (byte_at bytes are)) refl

data_works : (before : List Line) (bytes : List ℕ) → are_bytes bytes ≡ true → 0 < length bytes → data_lens before + length bytes ≤ 8388608
    → work_of generated_boot 4 before (form.bytes (codes "-") (encode_lower bytes)) ≡ Ok (Work.Driver (DriverLine.Bytes default bytes))
unfolding work_of
data_works before bytes are some few = rw (is_default, bytes_read bytes are some, in_range 8388608 (data_lens before + length bytes) few) refl

ready_works : (before : List Line) (address : List ℕ) → address_in address ≡ Some address → work_of generated_boot 4 before (form.endpoint address (codes "ready")) ≡ Ok (Work.Driver (DriverLine.Endpoint address State.Ready))
unfolding work_of
ready_works before address numeric = rw (numeric, is_ready) refl

module _ (before : List Line) (n m : ℕ) (few : n ≤ 200000) (behind : driver_lines before < 20000) (next : m ≡ n + 1) where
  open_taken : Takes head before n (codes "d open -\n") (driven n None (DriverLine.Opened default) ∷ []) m
  unfolding gate_in form_of driver_form
  open_taken =
      let words = codes "open" ∷ codes "-" ∷ [] in
      let plain : ArePlain (codes "d" ∷ words) = (refl, (refl, (refl, tt))) in
      words_taken head before n (codes "d open -\n") (codes "d") words None (Work.Driver (DriverLine.Opened default)) m refl plain
      (line_read generated_boot 4 before n (codes "d") words None (codes "d" ∷ words) (form.opened (codes "-")) None (Work.Driver (DriverLine.Opened default)) plain refl refl (no_gate n) (open_works before) few behind)
      next

  data_taken : (payload : List ℕ) → are_bytes (frame payload) ≡ true → 0 < length (frame payload) → data_lens before + length (frame payload) ≤ 8388608
      → Takes head before n (data_line payload) (driven n None (DriverLine.Bytes default (frame payload)) ∷ []) m
  unfolding gate_in form_of driver_form
  data_taken payload are some room =
      let words = codes "data" ∷ codes "-" ∷ encode_lower (frame payload) ∷ [] in
      let plain : ArePlain (codes "d" ∷ words) = (refl, (refl, (refl, (hex_plain (frame payload) are, tt)))) in
      words_taken head before n (data_line payload) (codes "d") words None (Work.Driver (DriverLine.Bytes default (frame payload))) m refl plain
      (line_read generated_boot 4 before n (codes "d") words None (codes "d" ∷ words) (form.bytes (codes "-") (encode_lower (frame payload))) None (Work.Driver (DriverLine.Bytes default (frame payload))) plain refl refl (no_gate n)
      (data_works before (frame payload) are some room) few behind)
      next

  ready_taken : (address : List ℕ) → is_plain_word address ≡ true → address_in address ≡ Some address → Takes head before n (ready_line address) (driven n None (DriverLine.Endpoint address State.Ready) ∷ []) m
  unfolding gate_in form_of driver_form
  ready_taken address own numeric =
      let words = codes "endpoint" ∷ address ∷ codes "ready" ∷ [] in
      let plain : ArePlain (codes "d" ∷ words) = (refl, (refl, (own, (refl, tt)))) in
      words_taken head before n (ready_line address) (codes "d") words None (Work.Driver (DriverLine.Endpoint address State.Ready)) m (ready_text address) plain
      (line_read generated_boot 4 before n (codes "d") words None (codes "d" ∷ words) (form.endpoint address (codes "ready")) None (Work.Driver (DriverLine.Endpoint address State.Ready)) plain refl refl (no_gate n)
      (ready_works before address numeric) few behind)
      next
    where
      ready_text : (address : List ℕ) → codes "d endpoint " ++ address ++ codes " ready\n" ≡ spaced (codes "d") (codes "endpoint" ∷ address ∷ codes "ready" ∷ []) ++ 10 ∷ []
      ready_text address = simp append_assoc refl

-- ---- lines 5 to 12

data_more : (line : Line) (before : List Line) → data_lens (line ∷ before) ≡ data_len line.work + data_lens before
data_more line before = sum_by-cons (λ x. data_len x.work) line before

abbrev line_5 : Line
line_5 = driven 5 None (DriverLine.Opened default)

abbrev line_6 : Line
line_6 = driven 6 None (DriverLine.Bytes default (frame listener_response))

abbrev line_7 : Line
line_7 = driven 7 None (DriverLine.Bytes default (frame cluster_response))

abbrev line_8 : Line
line_8 = driven 8 None (DriverLine.Bytes default (frame endpoint_response))

abbrev line_9 : Line
line_9 = driven 9 None (DriverLine.Endpoint (codes "10.0.0.1:80") State.Ready)

abbrev line_10 : Line
line_10 = driven 10 None (DriverLine.Endpoint (codes "10.0.0.2:80") State.Ready)

abbrev line_11 : Line
line_11 = driven 11 None (DriverLine.Endpoint (codes "10.0.1.1:80") State.Ready)

abbrev line_12 : Line
line_12 = driven 12 None (DriverLine.Endpoint (codes "10.0.1.2:80") State.Ready)

stands_5 : Stands 0 0 1 1 (line_5 ∷ [])
stands_5 = stands_driven 5 None (DriverLine.Opened default) 0 0 0 0 1 [] stands_first (omega arith) (omega arith)

stands_6 : Stands 0 0 2 60 (line_6 ∷ line_5 ∷ [])
stands_6 = stands_driven 6 None (DriverLine.Bytes default (frame listener_response)) 0 0 1 1 59 (line_5 ∷ []) stands_5 (omega arith) (omega (arith, listener_length))

stands_7 : Stands 0 0 3 102 (line_7 ∷ line_6 ∷ line_5 ∷ [])
stands_7 = stands_driven 7 None (DriverLine.Bytes default (frame cluster_response)) 0 0 2 60 42 (line_6 ∷ line_5 ∷ []) stands_6 (omega arith) (omega (arith, cluster_length))

stands_8 : Stands 0 0 4 170 (line_8 ∷ line_7 ∷ line_6 ∷ line_5 ∷ [])
stands_8 = stands_driven 8 None (DriverLine.Bytes default (frame endpoint_response)) 0 0 3 102 68 (line_7 ∷ line_6 ∷ line_5 ∷ []) stands_7 (omega arith) (omega (arith, endpoint_length))

stands_9 : Stands 0 0 5 171 (line_9 ∷ line_8 ∷ line_7 ∷ line_6 ∷ line_5 ∷ [])
stands_9 = stands_driven 9 None (DriverLine.Endpoint (codes "10.0.0.1:80") State.Ready) 0 0 4 170 1 (line_8 ∷ line_7 ∷ line_6 ∷ line_5 ∷ []) stands_8 (omega arith) (omega arith)

stands_10 : Stands 0 0 6 172 (line_10 ∷ line_9 ∷ line_8 ∷ line_7 ∷ line_6 ∷ line_5 ∷ [])
stands_10 = stands_driven 10 None (DriverLine.Endpoint (codes "10.0.0.2:80") State.Ready) 0 0 5 171 1 (line_9 ∷ line_8 ∷ line_7 ∷ line_6 ∷ line_5 ∷ []) stands_9 (omega arith) (omega arith)

stands_11 : Stands 0 0 7 173 (line_11 ∷ line_10 ∷ line_9 ∷ line_8 ∷ line_7 ∷ line_6 ∷ line_5 ∷ [])
stands_11 = stands_driven 11 None (DriverLine.Endpoint (codes "10.0.1.1:80") State.Ready) 0 0 6 172 1 (line_10 ∷ line_9 ∷ line_8 ∷ line_7 ∷ line_6 ∷ line_5 ∷ []) stands_10 (omega arith) (omega arith)

pub setup_stands : Stands 0 0 8 174 (reverse setup_lines)
setup_stands = stands_driven 12 None (DriverLine.Endpoint (codes "10.0.1.2:80") State.Ready) 0 0 7 173 1 (line_11 ∷ line_10 ∷ line_9 ∷ line_8 ∷ line_7 ∷ line_6 ∷ line_5 ∷ []) stands_11 (omega arith) (omega arith)

data_5 : data_lens (line_5 ∷ []) ≤ 0
data_5 = omega (arith, data_more line_5 [])

data_6 : data_lens (line_6 ∷ line_5 ∷ []) ≤ 288
data_6 = omega (arith, data_more line_6 (line_5 ∷ []), data_5, listener_length)

data_7 : data_lens (line_7 ∷ line_6 ∷ line_5 ∷ []) ≤ 491
data_7 = omega (arith, data_more line_7 (line_6 ∷ line_5 ∷ []), data_6, cluster_length)

begins_5 : Begins (four_lines ++ codes "d open -\n") (line_5 ∷ []) 6
begins_5 = begins_then four_lines (codes "d open -\n") [] (line_5 ∷ []) 5 6 begins_head (open_taken [] 5 6 (omega arith) (omega arith) refl)

abbrev text_6 : List ℕ
text_6 = four_lines ++ codes "d open -\n" ++ data_line listener_response

begins_6 : Begins text_6 (line_5 ∷ line_6 ∷ []) 7
begins_6 =
    let d = stands_5.driver_few in
    begins_then (four_lines ++ codes "d open -\n") (data_line listener_response) (line_5 ∷ []) (line_6 ∷ []) 6 7 begins_5
    (data_taken (line_5 ∷ []) 6 7 (omega arith) (omega (arith, d)) refl listener_response listener_bytes (omega (arith, listener_length)) (omega (arith, data_5, listener_length)))

abbrev text_7 : List ℕ
text_7 = text_6 ++ data_line cluster_response

begins_7 : Begins text_7 (line_5 ∷ line_6 ∷ line_7 ∷ []) 8
begins_7 =
    let d = stands_6.driver_few in
    begins_then text_6 (data_line cluster_response) (line_5 ∷ line_6 ∷ []) (line_7 ∷ []) 7 8 begins_6
    (data_taken (line_6 ∷ line_5 ∷ []) 7 8 (omega arith) (omega (arith, d)) refl cluster_response cluster_bytes (omega (arith, cluster_length)) (omega (arith, data_6, cluster_length)))

abbrev text_8 : List ℕ
text_8 = text_7 ++ data_line endpoint_response

begins_8 : Begins text_8 (line_5 ∷ line_6 ∷ line_7 ∷ line_8 ∷ []) 9
begins_8 =
    let d = stands_7.driver_few in
    begins_then text_7 (data_line endpoint_response) (line_5 ∷ line_6 ∷ line_7 ∷ []) (line_8 ∷ []) 8 9 begins_7
    (data_taken (line_7 ∷ line_6 ∷ line_5 ∷ []) 8 9 (omega arith) (omega (arith, d)) refl endpoint_response endpoint_bytes (omega (arith, endpoint_length)) (omega (arith, data_7, endpoint_length)))

abbrev text_9 : List ℕ
text_9 = text_8 ++ ready_line (codes "10.0.0.1:80")

begins_9 : Begins text_9 (line_5 ∷ line_6 ∷ line_7 ∷ line_8 ∷ line_9 ∷ []) 10
begins_9 =
    let d = stands_8.driver_few in
    begins_then text_8 (ready_line (codes "10.0.0.1:80")) (line_5 ∷ line_6 ∷ line_7 ∷ line_8 ∷ []) (line_9 ∷ []) 9 10 begins_8
    (ready_taken (line_8 ∷ line_7 ∷ line_6 ∷ line_5 ∷ []) 9 10 (omega arith) (omega (arith, d)) refl (codes "10.0.0.1:80") refl first_address)

abbrev text_10 : List ℕ
text_10 = text_9 ++ ready_line (codes "10.0.0.2:80")

begins_10 : Begins text_10 (line_5 ∷ line_6 ∷ line_7 ∷ line_8 ∷ line_9 ∷ line_10 ∷ []) 11
begins_10 =
    let d = stands_9.driver_few in
    begins_then text_9 (ready_line (codes "10.0.0.2:80")) (line_5 ∷ line_6 ∷ line_7 ∷ line_8 ∷ line_9 ∷ []) (line_10 ∷ []) 10 11 begins_9
    (ready_taken (line_9 ∷ line_8 ∷ line_7 ∷ line_6 ∷ line_5 ∷ []) 10 11 (omega arith) (omega (arith, d)) refl (codes "10.0.0.2:80") refl second_address)

abbrev text_11 : List ℕ
text_11 = text_10 ++ ready_line (codes "10.0.1.1:80")

begins_11 : Begins text_11 (line_5 ∷ line_6 ∷ line_7 ∷ line_8 ∷ line_9 ∷ line_10 ∷ line_11 ∷ []) 12
begins_11 =
    let d = stands_10.driver_few in
    begins_then text_10 (ready_line (codes "10.0.1.1:80")) (line_5 ∷ line_6 ∷ line_7 ∷ line_8 ∷ line_9 ∷ line_10 ∷ []) (line_11 ∷ []) 11 12 begins_10
    (ready_taken (line_10 ∷ line_9 ∷ line_8 ∷ line_7 ∷ line_6 ∷ line_5 ∷ []) 11 12 (omega arith) (omega (arith, d)) refl (codes "10.0.1.1:80") refl third_address)

begins_12 : Begins (text_11 ++ ready_line (codes "10.0.1.2:80")) setup_lines 13
begins_12 =
    let d = stands_11.driver_few in
    begins_then text_11 (ready_line (codes "10.0.1.2:80")) (line_5 ∷ line_6 ∷ line_7 ∷ line_8 ∷ line_9 ∷ line_10 ∷ line_11 ∷ []) (line_12 ∷ []) 12 13 begins_11
    (ready_taken (line_11 ∷ line_10 ∷ line_9 ∷ line_8 ∷ line_7 ∷ line_6 ∷ line_5 ∷ []) 12 13 (omega arith) (omega (arith, d)) refl (codes "10.0.1.2:80") refl fourth_address)

pub begins_setup : Begins first_lines setup_lines 13
unfolding first_lines
begins_setup = begins_12
