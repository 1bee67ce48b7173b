-- Prefixes of the texts that are listed.
use Rattle.std.proofs.Common.{ℕ, List, length, subst, sym, arith}
use Rattle.std.proofs.lemmas.List.{take_all}
use Rattle.resource_check.specs.declared.delivery.Prepared.{Prepared}
use Rattle.listed_check.specs.ListedAnswers.{IsPreparedWith}
use Rattle.listed_events.specs.ListedEvents.{IsPreparedWithPrefix}

-- all of the texts are such a prefix
pub whole : (payload : List ℕ) (texts : List (List ℕ)) (found : Prepared) → IsPreparedWith payload texts found → IsPreparedWithPrefix payload texts found
whole payload texts found prepared = record {
  count = length texts;
  prepared = subst (λ (listed : List (List ℕ)). IsPreparedWith payload listed found) (sym (take_all (length texts) texts (omega arith))) prepared;
}
