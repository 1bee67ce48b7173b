-- What entries refuse, and what was refused in the meantime.
use Rattle.std.proofs.Common.{◌≡◌, ℕ, List, [], ◌∷◌, ◌++◌, refl, sym, ap, ap₂, ◌∙◌, subst, append_assoc, append-nil, inl, inr}
use Rattle.call_journal.specs.declared.entry.Entry.{Entry}
use Rattle.check_steps.specs.Asking.{IsSubsequence}
use Rattle.config_assembly.specs.Orders.{Name}
use Rattle.legal_plan.specs.xds_history.Responses.{refused_texts}
use Rattle.session_player.specs.Stages.{Refuses}

among_more : (us zs : List Name) (y : Name) → IsSubsequence us zs → IsSubsequence us (y ∷ zs)
among_more [] zs y h = tt
among_more (u ∷ us) zs y h = inr h

among_both : (xs ys us vs : List Name) → IsSubsequence xs ys → IsSubsequence us vs → IsSubsequence (xs ++ us) (ys ++ vs)
among_both [] [] us vs h k = k
among_both [] (y ∷ ys) us vs h k = among_more us (ys ++ vs) y (among_both [] ys us vs (none ys) k)
  where
    none : (zs : List Name) → IsSubsequence [] zs
    none [] = tt
    none (z ∷ zs) = tt
among_both (x ∷ xs) [] us vs h k = absurd h
among_both (x ∷ xs) (y ∷ ys) us vs (inl h) k = inl (h.0, among_both xs ys us vs h.1 k)
among_both (x ∷ xs) (y ∷ ys) us vs (inr h) k = inr (among_both (x ∷ xs) ys us vs h k)

-- one play after another
pub refuses_then : (a b c : List Entry) (p q r : List Name) → Refuses a b p q → Refuses b c q r → Refuses a c p r
refuses_then a b c p q r one two = record {
  told = one.told ++ two.told;
  told_is = two.told_is ∙ (ap (λ (xs : List Name). xs ++ two.told) one.told_is ∙ append_assoc p one.told two.told);
  kept = one.kept ++ two.kept;
  kept_is = two.kept_is ∙ (ap (λ (xs : List Name). xs ++ two.kept) one.kept_is ∙ append_assoc (refused_texts a) one.kept two.kept);
  among = among_both one.kept one.told two.kept two.told one.among two.among;
}

-- nothing was refused
pub refuses_none : (a b : List Entry) (p : List Name) → refused_texts b ≡ refused_texts a → Refuses a b p p
refuses_none a b p same = record {
  told = [];
  told_is = sym (append-nil p);
  kept = [];
  kept_is = same ∙ sym (append-nil (refused_texts a));
  among = tt;
}

pub nothing_among : (xs : List Name) → IsSubsequence xs [] → xs ≡ []
nothing_among [] h = refl
nothing_among (x ∷ xs) h = absurd h
