-- What a binary search finds among entries in the order of their stations.
use Rattle.std.proofs.Common.{◌≡◌, ℕ, ◌≤◌, true, List, length, get_or, Result, Ok, Err, MatchResult, sym, ap, arith}
use Rattle.std.specs.List.Sorted.{IsSearchInRange, IsBinarySearchResult, IsNonDecreasingBy}
use Rattle.std.specs.Ordering.{nat_cmp, ordering_index}
use Rattle.std.proofs.lemmas.Cmp.{ranked}
use Rattle.std.proofs.lemmas.List.Sorted.{IsNonDecreasingBy-from_default}
use Rattle.std.proofs.lemmas.Bool.Decides.{nat_tests}
use Rattle.fdb.specs.declared.entry.Entry.{Entry}
use Rattle.fdb.specs.Entries.{no_entry, ascending}
use Rattle.fdb.specs.Search.{StandsAt, BelongsAt}
use Rattle.fdb.proofs.Ordered.{rises, stands_at, belongs_at}

module _ (es : List Entry) (sorted : ascending es ≡ true) (s : ℕ) where
  -- the comparisons with s rise along the entries, as a binary search asks
  comparisons_rise : IsNonDecreasingBy (λ e. ordering_index (nat_cmp e.station s)) es
  comparisons_rise = IsNonDecreasingBy-from_default (λ e. ordering_index (nat_cmp e.station s)) es no_entry (λ i j le in_range.
      let key = λ (i : ℕ). (get_or es i no_entry).station in
      let keys_rise : key i ≤ key j = grind (arith, rises es sorted i j, λ (same : i ≡ j). ap key same) in
      grind (arith, nat_tests))

  pub searched : (r : Result ℕ ℕ) → IsSearchInRange r (length es) → IsBinarySearchResult (λ e. nat_cmp e.station s) es r → MatchResult r (StandsAt s es) (BelongsAt s es)
  searched (Ok at) in_range equal = stands_at s es sorted at in_range (ranked _ s _ (sym (equal no_entry)))
  searched (Err at) in_range parted = belongs_at s es at in_range
      (λ j lt. ranked _ s _ (sym ((parted comparisons_rise).0 j no_entry (omega arith) lt)))
      (λ j le lt. ranked _ s _ (sym ((parted comparisons_rise).1 j no_entry le lt)))
