-- One turn of the loop that takes the frames, and its end.
use Rattle.std.proofs.Common.{◌≡◌, ℕ, ◌-◌, List, [], ◌∷◌, ◌++◌, length, drop, sym, ap, ◌∙◌, append_assoc, append-nil, Some, None}
use Rattle.grpc_framing.specs.Framing.{Parts}
use Rattle.grpc_framing.specs.Cut.{first_frame, cut}
use Rattle.grpc_framing.proofs.FrameLemmas.{tail_of}
use Rattle.grpc_framing.proofs.CutLemmas.{cut_first, cut_none}
use Rattle.grpc_framing.proofs.ListLemmas.{drop_to_tail}

pub payloads_more : (rest payload after : List ℕ) (out given : List (List ℕ)) → first_frame rest ≡ Some (payload, after) →
    out ++ (cut rest).payloads ≡ given → (out ++ payload ∷ []) ++ (cut after).payloads ≡ given
payloads_more rest payload after out given is inv =
    append_assoc out (payload ∷ []) (cut after).payloads ∙ ap (λ (parts : Parts). out ++ parts.payloads) (sym (cut_first rest payload after is)) ∙ inv

pub rest_more : (rest payload after given : List ℕ) → first_frame rest ≡ Some (payload, after) → (cut rest).rest ≡ given → (cut after).rest ≡ given
rest_more rest payload after given is inv = ap (λ (parts : Parts). parts.rest) (sym (cut_first rest payload after is)) ∙ inv

pub tail_more : (bytes rest payload after : List ℕ) → first_frame rest ≡ Some (payload, after) →
    ((front : List ℕ) × (bytes ≡ front ++ rest)) → (front : List ℕ) × (bytes ≡ front ++ after)
tail_more bytes rest payload after is inv =
    let t = tail_of rest payload after is in
    (inv.0 ++ t.0, inv.1 ∙ ap (λ xs. inv.0 ++ xs) t.1 ∙ sym (append_assoc inv.0 t.0 after))

pub payloads_end : (rest : List ℕ) (out given : List (List ℕ)) → first_frame rest ≡ None → out ++ (cut rest).payloads ≡ given → out ≡ given
payloads_end rest out given is inv = sym (append-nil out) ∙ ap (λ (parts : Parts). out ++ parts.payloads) (sym (cut_none rest is)) ∙ inv

pub rest_end : (bytes rest given : List ℕ) → first_frame rest ≡ None → (cut rest).rest ≡ given →
    ((front : List ℕ) × (bytes ≡ front ++ rest)) → drop (length bytes - length rest) bytes ≡ given
rest_end bytes rest given is inv tail =
    drop_to_tail bytes tail.0 rest tail.1 ∙ ap (λ (parts : Parts). parts.rest) (sym (cut_none rest is)) ∙ inv
