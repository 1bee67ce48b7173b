-- The resources of a response, one after another, where the listed texts are refused.
use Rattle.std.proofs.Common.{◌≡◌, ◌≢◌, ℕ, ◌<◌, ◌+◌, List, [], ◌∷◌, ◌++◌, length, take, get_or, ◌||◌, Option, refl, sym, ap, ◌∙◌, subst, append-nil, length-append, arith}
use Rattle.std.specs.Prelude.{bytes_eq, Ok}
use Rattle.std.specs.List.{list_any}
use Rattle.std.specs.BTreeSet.{BTreeSet}
use Rattle.std.proofs.lemmas.List.{take_more}
use Rattle.xc_base.specs.declared.names.Kind.{Kind}
use Rattle.proto_discovery.specs.Response.{response_of}
use Rattle.proto_discovery.specs.TypeUrls.{kind_of}
use Rattle.proto_discovery.specs.declared.any.AnyValue.{AnyValue}
use Rattle.proto_discovery.specs.declared.response.Response.{Response}
use Rattle.check_steps.specs.Asking.{Agrees, Says, Texts, answer_to, refusing}
use Rattle.check_steps.specs.Sets.{has}
use Rattle.resource_check.specs.declared.delivery.Delivery.{Delivery}
use Rattle.resource_check.specs.declared.delivery.Prepared.{Prepared}
use Rattle.resource_check.specs.declared.delivery.Reading.{Reading}
use Rattle.resource_check.specs.declared.delivery.Reading.TheVariants.{Read}
use Rattle.resource_check.specs.Answers.{new_text}
use Rattle.resource_check.specs.Resources.{check_of}
use Rattle.resource_check.specs.Deliveries.{apart_where, delivery_of, is_name, reading_with, refused_text}
use Rattle.resource_check.proofs.DeliveryLemmas.{AreChecked, checked_more, prepared_of}
use Rattle.listed_check.specs.ListedAnswers.{AreDelivered, IsPreparedWith, OnePrepared, refuses}
use Rattle.listed_check.specs.ListedTexts.{RefusesThese}

-- ---- one resource

-- that the listed texts are refused agrees with what was answered, where no other was refused
pub agrees_listed : (before after : Texts) (listed : List (List ℕ)) → after.refused ≡ before.refused → RefusesThese before listed → Agrees (refusing after) after → Agrees (refuses listed) after
agrees_listed before after listed same fits agrees = record {
  says = λ text.
      subst (λ b. Says b (answer_to after text)) (ap (λ (ts : List (List ℕ)). list_any (λ t. bytes_eq t text) ts) same ∙ fits text) (agrees.says text);
}

-- the same texts are refused where no other was
pub still_these : (before after : Texts) (listed : List (List ℕ)) → after.refused ≡ before.refused → RefusesThese before listed → RefusesThese after listed
still_these before after listed same fits text = ap (λ (ts : List (List ℕ)). list_any (λ t. bytes_eq t text) ts) same ∙ fits text

nothing_by : (before gained : List (List ℕ)) → length (before ++ gained) ≡ length before → gained ≡ []
nothing_by before [] is = refl
nothing_by before (text ∷ texts) is = absurd (omega (arith, is, length-append before (text ∷ texts)))

-- texts that grow no longer gain nothing
pub nothing_gained : (before after gained : List (List ℕ)) → after ≡ before ++ gained → length after ≡ length before → gained ≡ []
nothing_gained before after gained more same = nothing_by before gained (ap (λ (ts : List (List ℕ)). length ts) (sym more) ∙ same)

pub all_the_same : (before after gained : List (List ℕ)) → after ≡ before ++ gained → gained ≡ [] → after ≡ before
all_the_same before after gained more none = more ∙ (ap (λ (ts : List (List ℕ)). before ++ ts) none ∙ append-nil before)

-- what gains texts is longer than it was
longer_by : (told gained : List (List ℕ)) → (gained ≡ [] → ⊥) → length told < length (told ++ gained)
longer_by told [] some = absurd (some refl)
longer_by told (text ∷ texts) some = omega (arith, length-append told (text ∷ texts))

pub gets_longer : (told tells before after gained : List (List ℕ)) → tells ≡ told ++ gained → after ≡ before ++ gained → length after ≢ length before → length told < length tells
gets_longer told tells before after gained told_more more grows =
    subst (λ (ts : List (List ℕ)). length told < length ts) (sym told_more)
    (longer_by told gained (λ none. grows (ap (λ (ts : List (List ℕ)). length ts) (all_the_same before after gained more none))))

-- ---- one more resource

pub listed_more : (listed : List (List ℕ)) (kind : Kind) (resources : List AnyValue) (i : ℕ) (any : AnyValue) (parts : List Delivery) (names later : BTreeSet (List ℕ)) (stops more : List (List ℕ)) (delivery part : Delivery) (text : Option (List ℕ))
    → i < length resources → any ≡ get_or resources i any → AreChecked (refuses listed) kind (take i resources) parts names stops
    → delivery ≡ delivery_of (check_of (refuses listed) kind any) → text ≡ refused_text (check_of (refuses listed) kind any)
    → part ≡ apart_where (has names) delivery → ((other : List ℕ) → has later other ≡ (is_name delivery.name other || has names other)) → more ≡ stops ++ new_text stops text
    → AreChecked (refuses listed) kind (take (i + 1) resources) (parts ++ part ∷ []) later more
listed_more listed kind resources i any parts names later stops more delivery part text lt is so_far delivers stop is_part come more_are =
    let gains : more ≡ stops ++ new_text stops (refused_text (check_of (refuses listed) kind any)) =
    more_are ∙ ap (λ (t : Option (List ℕ)). stops ++ new_text stops t) stop in
    let done = checked_more (refuses listed) kind (take i resources) any parts names later stops more delivery part so_far delivers is_part come gains in
    let taken : take (i + 1) resources ≡ take i resources ++ any ∷ [] =
    take_more resources i any lt ∙ ap (λ (a : AnyValue). take i resources ++ a ∷ []) (sym is) in
    let P : List AnyValue → Type 0 = λ rs. AreChecked (refuses listed) kind rs (parts ++ part ∷ []) later more in
    subst P (sym taken) done

-- ---- payloads

pub read_prepared : (payload : List ℕ) (listed : List (List ℕ)) (r : Response) (kind : Option Kind) (parts : List Delivery) → response_of payload ≡ Ok r → kind ≡ kind_of r.type_url → AreDelivered listed kind r.resources parts
    → IsPreparedWith payload listed record { payload = payload; reading = Read kind r.version r.nonce parts; refused = listed }
read_prepared payload listed r kind parts read is delivered =
    record { payload = refl; prepared = prepared_of payload r kind parts listed read is delivered.parts delivered.stops delivered.lawful; refused = refl }

-- ---- one reading

abbrev prepared_by : List ℕ → Reading → List (List ℕ) → Prepared
prepared_by payload reading refused = record { payload = payload; reading = reading; refused = refused }

same_prepared : (payload other : List ℕ) (reading another : Reading) (refused texts : List (List ℕ)) → payload ≡ other → reading ≡ another → refused ≡ texts → prepared_by payload reading refused ≡ prepared_by other another texts
same_prepared payload other reading another refused texts p r t =
    ap (λ (x : List ℕ). prepared_by x reading refused) p ∙ (ap (λ (x : Reading). prepared_by other x refused) r ∙ ap (λ (x : List (List ℕ)). prepared_by other another x) t)

pub one_prepared : OnePrepared
one_prepared a b is_a is_b payload refused =
    let reading : a.reading ≡ b.reading =
    is_a.reading
    ∙ (ap (λ (ts : List (List ℕ)). reading_with (refuses ts) (response_of a.payload)) refused
    ∙ (ap (λ (p : List ℕ). reading_with (refuses b.refused) (response_of p)) payload ∙ sym is_b.reading)) in
    same_prepared a.payload b.payload a.reading b.reading a.refused b.refused payload reading refused
