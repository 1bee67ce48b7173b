-- How the best domain is kept while the hosts are searched.
use Rattle.std.specs.Prelude.{◌≡◌, ℕ, ◌==◌, nat_lt, ◌&&◌, ◌||◌, List, length, Bool, true, false, if◌then◌else◌, Option, None, Some, All, Contains}
use Rattle.route_match.specs.declared.domains.Rank.{Rank}
use Rattle.route_match.specs.Domains.{class_of, order_of, domain_met, is_preferred}

abbrev pub rank : ℕ → List ℕ → Rank
rank host domain = record { class = class_of domain; length = length domain; host = host }

abbrev pub outranks : Rank → Rank → Bool
outranks a b =
    nat_lt (order_of a.class) (order_of b.class)
    || (order_of a.class == order_of b.class && nat_lt b.length a.length)

-- the rank of a domain that the text meets
abbrev pub rank_of : ℕ → List ℕ → List ℕ → Option Rank
rank_of host domain text = if domain_met domain text then Some (rank host domain) else None

-- the better of two, and the first of two that are alike
abbrev pub better : Option Rank → Option Rank → Option Rank
better best None = best
better None (Some r) = Some r
better (Some b) (Some r) = if outranks r b then Some r else Some b

-- the rank is that of a domain that the text meets, and to which none that it meets is preferred
pub record IsBestRank (domains : List (List ℕ)) (text : List ℕ) (host : ℕ) (r : Rank) : Type 0 where
  pub domain : List ℕ
  pub own : Contains domains domain
  pub met : domain_met domain text ≡ true
  pub best : All (λ d. domain_met d text ≡ true → is_preferred d domain ≡ false) domains
  pub is : r ≡ rank host domain

abbrev pub IsBestOf : List (List ℕ) → List ℕ → ℕ → Option Rank → Type 0
IsBestOf domains text host None = All (λ d. domain_met d text ≡ false) domains
IsBestOf domains text host (Some r) = IsBestRank domains text host r
