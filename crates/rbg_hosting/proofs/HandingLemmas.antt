-- What a recorder hands over.
use Rattle.rbg_base.proofs.Common.{◌≡◌, ◌≢◌, ◌⊎◌, inl, inr, ℕ, zero, suc, ◌+◌, ◌<◌, ◌≤◌, List, [], ◌∷◌, ◌++◌, Bool, true, false, not, ◌||◌, Option, Some, None, MatchOption, is_some, length, list_any, set, slice_index_or, ap, sym, ◌∙◌, refl, subst, append_assoc, append-nil, arith, cases_eq}
use Rattle.std.proofs.lemmas.List.{get_or-set_other, get_or-set_same, length-set}
use Rattle.std.proofs.lemmas.List.Folds.{list_any-append}
use Rattle.std.specs.Global.{Vec}
use Rattle.rbg_match.specs.Matches.{MatchState}
use Rattle.rbg_hall.specs.Halls.{begun_at}
use Rattle.rbg_hall.specs.Serving.{has_ended}
use Rattle.rbg_hall.specs.Tables.{TableState}
use Rattle.rbg_network.specs.Archives.{Handed, handed_as, is_any_lost, is_lost, kept, lost}
use Rattle.rbg_hosting.specs.Archives.{AreHandedOver, IsHandedFor, IsHandedOver}
use Rattle.rbg_hosting.specs.Archives.AreHandedOver.{nothing, one_more}
use Rattle.rbg_hosting.specs.Archives.IsHandedFor.{is_kept, is_lost as is_lost_for}
use Rattle.rbg_hosting.specs.Archives.IsHandedOver.{ends, goes_on, had_ended}
use Rattle.rbg_hosting.specs.Records.{IsRecordOf}
use Rattle.rbg_hosting.specs.declared.recorder.Recorder.{Recorder}
use Rattle.rbg_hosting.specs.internal.Recorded.{AreNoted, HandsAt, HandsFirst, HandsMore, HandsOne, HandsOver, HasHanded, IsHandedNext, StandAfter, WorksUnless, noted_at, places}
use Rattle.rbg_hosting.proofs.StandingLemmas.{stays_ended, works_since}

-- what an archive was handed is kept or lost
handed_is : (number : ℕ) (playing : MatchState) (bytes : List ℕ) (is_it_kept : Bool) → IsRecordOf playing.game playing bytes → IsHandedFor number playing (handed_as number bytes is_it_kept)
handed_is number playing bytes true is = is_kept bytes is
handed_is number playing bytes false is = is_lost_for

lost_as : (number : ℕ) (bytes : List ℕ) (is_it_kept : Bool) → is_lost (handed_as number bytes is_it_kept) ≡ not is_it_kept
lost_as number bytes true = refl
lost_as number bytes false = refl

or_false : (b : Bool) → (b || false) ≡ b
or_false true = refl
or_false false = refl

or_true : (b : Bool) → (b || true) ≡ true
or_true true = refl
or_true false = refl

any_more : (handed : List Handed) (one : Handed) → is_any_lost (handed ++ one ∷ []) ≡ (is_any_lost handed || is_lost one)
any_more handed one = list_any-append is_lost handed (one ∷ []) ∙ ap (λ b. is_any_lost handed || b) (or_false (is_lost one))

-- a record was handed to the archive
pub kept_next : {A : Type 0} (told : A → List Handed → Type 0) (before after : Recorder A) (number : ℕ) (playing : MatchState) (bytes : List ℕ) (is_it_kept : Bool) (handed : List Handed) →
    HasHanded told before handed →
    IsRecordOf playing.game playing bytes →
    told after.archive (handed ++ handed_as number bytes is_it_kept ∷ []) →
    after.lost ≡ (before.lost || not is_it_kept) →
    IsHandedNext told after number playing handed
kept_next told before after number playing bytes is_it_kept handed has is account of_lost = record {
  one = handed_as number bytes is_it_kept;
  is = handed_is number playing bytes is_it_kept is;
  has = record {
    account = account;
    lost = of_lost ∙ ap (λ b. b || not is_it_kept) has.lost ∙ ap (λ b. is_any_lost handed || b) (sym (lost_as number bytes is_it_kept))
        ∙ sym (any_more handed (handed_as number bytes is_it_kept));
  };
}

-- there was no memory for it
pub lost_next : {A : Type 0} (told : A → List Handed → Type 0) (before after : Recorder A) (number : ℕ) (playing : MatchState) (handed : List Handed) →
    HasHanded told before handed →
    told after.archive (handed ++ lost number ∷ []) →
    after.lost ≡ true →
    IsHandedNext told after number playing handed
lost_next told before after number playing handed has account is = record {
  one = lost number;
  is = is_lost_for;
  has = record {
    account = account;
    lost = is ∙ sym (or_true (is_any_lost handed)) ∙ sym (any_more handed (lost number));
  };
}

-- nothing is handed over
none_more : {A : Type 0} (told : A → List Handed → Type 0) (recorder : Recorder A) (handed : List Handed) → HasHanded told recorder handed → HasHanded told recorder (handed ++ [])
none_more told recorder handed has = subst (HasHanded told recorder) (sym (append-nil handed)) has

-- a match that is noted
pub noted_before : {A : Type 0} (told : A → List Handed → Type 0) (recorder : Recorder A) (index : ℕ) (begun : Option MatchState) →
    noted_at recorder index ≡ true → HandsAt told recorder recorder index begun
noted_before told recorder index begun noted = record {
  as_many = refl;
  here = noted ∙ ap (λ b. b || has_ended begun) (sym noted);
  others = λ other differs. refl;
  hands = λ works handed has. record {
    more = [];
    is = subst (λ b. IsHandedOver (suc index) b begun []) (sym noted) had_ended;
    has = none_more told recorder handed has;
  };
}

-- a match that hasn't ended
pub not_ended : {A : Type 0} (told : A → List Handed → Type 0) (recorder : Recorder A) (index : ℕ) (begun : Option MatchState) →
    has_ended begun ≡ false → HandsAt told recorder recorder index begun
not_ended told recorder index begun going = record {
  as_many = refl;
  here = sym (ap (λ b. noted_at recorder index || b) going ∙ or_false (noted_at recorder index));
  others = λ other differs. refl;
  hands = λ works handed has. record {
    more = [];
    is = goes_on going;
    has = none_more told recorder handed has;
  };
}

-- a match that has ended, and isn't noted
pub ended_now : {A : Type 0} (told : A → List Handed → Type 0) (before after : Recorder A) (index : ℕ) (playing : MatchState) →
    noted_at before index ≡ false →
    is_some playing.play.outcome ≡ true →
    places after ≡ places before →
    noted_at after index ≡ true →
    ((other : ℕ) → ¬ (other ≡ index) → noted_at after other ≡ noted_at before other) →
    ((handed : List Handed) → playing.failed ≡ false → HasHanded told before handed → IsHandedNext told after (suc index) playing handed) →
    HandsAt told before after index (Some playing)
ended_now told before after index playing noted ended as_many here others hands = record {
  as_many = as_many;
  here = here ∙ sym (ap (λ b. noted_at before index || b) ended ∙ or_true (noted_at before index));
  others = others;
  hands = λ works handed has.
      let next = hands handed (works playing noted refl ended) has in
      record {
        more = next.one ∷ [];
        is = subst (λ b. IsHandedOver (suc index) b (Some playing) (next.one ∷ [])) (sym noted) (ends playing next.one ended next.is);
        has = next.has;
      };
}

-- the same of the code: the place at the index is set
pub marked : {A : Type 0} (told : A → List Handed → Type 0) (before between after : Recorder A) (index : ℕ) (playing : MatchState) →
    between.noted ≡ before.noted →
    after.noted.items ≡ set between.noted.items index true →
    after.archive ≡ between.archive →
    after.lost ≡ between.lost →
    index < places before →
    noted_at before index ≡ false →
    is_some playing.play.outcome ≡ true →
    ((handed : List Handed) → playing.failed ≡ false → HasHanded told before handed → IsHandedNext told between (suc index) playing handed) →
    HandsAt told before after index (Some playing)
marked told before between after index playing same items archive of_lost within noted ended hands =
    let kept_items : between.noted.items ≡ before.noted.items = ap (λ (one : Vec Bool). one.items) same in
    let now : after.noted.items ≡ set before.noted.items index true = items ∙ ap (λ them. set them index true) kept_items in
    ended_now told before after index playing noted ended
    (ap length now ∙ length-set before.noted.items index true)
    (ap (λ them. slice_index_or them index true) now ∙ get_or-set_same before.noted.items index true true within)
    (λ other differs. ap (λ them. slice_index_or them other true) now ∙ get_or-set_other before.noted.items index other true true differs)
    (λ handed alive has.
    let next = hands handed alive has in
    record {
      one = next.one;
      is = next.is;
      has = record { account = subst (λ one. told one (handed ++ next.one ∷ [])) (sym archive) next.has.account; lost = of_lost ∙ next.has.lost };
    })

-- the next match
hands_next : {A : Type 0} (told : A → List Handed → Type 0) (between after : Recorder A) (old new : List TableState) (index : ℕ) (handed : List Handed) →
    noted_at between index ≡ has_ended (begun_at old (suc index)) →
    WorksUnless (noted_at between index) (begun_at new (suc index)) →
    HandsAt told between after index (begun_at new (suc index)) →
    HandsMore told between old new index handed →
    HandsMore told after old new (suc index) handed
hands_next told between after old new index handed noted works at so_far =
    let next = at.hands works (handed ++ so_far.more) so_far.has in
    record {
      more = so_far.more ++ next.more;
      are = one_more so_far.are (subst (λ b. IsHandedOver (suc index) b (begun_at new (suc index)) next.more) noted next.is);
      has = subst (HasHanded told after) (append_assoc handed so_far.more next.more) next.has;
    }

-- whether a match has ended, by whether it had, and whether it has
or_ended : (old new : Option MatchState) → (has_ended old ≡ true → new ≡ old) → (has_ended old || has_ended new) ≡ has_ended new
or_ended old new stays = by_case (has_ended old) refl
  where
    by_case : (b : Bool) → has_ended old ≡ b → (b || has_ended new) ≡ has_ended new
    by_case true is = sym (ap has_ended (stays is) ∙ is)
    by_case false is = refl

-- nothing of the first none
pub hands_none : {A : Type 0} (told : A → List Handed → Type 0) (recorder : Recorder A) (old new : List TableState) → HandsFirst told recorder recorder old new 0
hands_none told recorder old new = record {
  as_many = refl;
  first = λ noted index below there. absurd (omega (arith, below));
  others = λ index above. refl;
  hands = λ noted handed has. record { more = []; are = nothing; has = none_more told recorder handed has };
}

-- the first ones, and the next
pub hands_first : {A : Type 0} (told : A → List Handed → Type 0) (before between after : Recorder A) (old new : List TableState) (index : ℕ) →
    index < places before →
    StandAfter old new →
    HandsAt told between after index (begun_at new (suc index)) →
    HandsFirst told before between old new index →
    HandsFirst told before after old new (suc index)
hands_first told before between after old new index within stand at so_far = record {
  as_many = at.as_many ∙ so_far.as_many;
  first = λ noted other below there. first_or_here noted other below there (cases_eq other index);
  others = λ other above. at.others other (λ same. absurd (omega (arith, above, same))) ∙ so_far.others other (omega (arith, above));
  hands = λ noted handed has.
      hands_next told between after old new index handed (noted_now noted) (works noted) at (so_far.hands noted handed has);
}
  where
    noted_now : AreNoted before old → noted_at between index ≡ has_ended (begun_at old (suc index))
    noted_now noted = so_far.others index (omega arith) ∙ noted index within

    works : AreNoted before old → WorksUnless (noted_at between index) (begun_at new (suc index))
    works noted playing unnoted is ended = works_since (stand index) (sym (noted_now noted) ∙ unnoted) playing is ended

    first_or_here : AreNoted before old → (other : ℕ) → other < suc index → other < places before → (other ≡ index) ⊎ (other ≢ index) → noted_at after other ≡ has_ended (begun_at new (suc other))
    first_or_here noted other below there (inl same) =
        subst (λ (one : ℕ). noted_at after one ≡ has_ended (begun_at new (suc one))) (sym same)
        (at.here ∙ ap (λ b. b || has_ended (begun_at new (suc index))) (noted_now noted)
        ∙ or_ended (begun_at old (suc index)) (begun_at new (suc index)) (stays_ended (stand index)))
    first_or_here noted other below there (inr differs) =
        at.others other differs ∙ so_far.first noted other (omega (arith, below, differs)) there

-- all of them
pub hands_all : {A : Type 0} (told : A → List Handed → Type 0) (before after : Recorder A) (old new : List TableState) →
    HandsFirst told before after old new (places before) → HandsOver told before after old new
hands_all told before after old new first = record {
  as_many = first.as_many;
  noted = λ noted index within. first.first noted index (subst (λ n. index < n) first.as_many within) (subst (λ n. index < n) first.as_many within);
  hands = first.hands;
}
