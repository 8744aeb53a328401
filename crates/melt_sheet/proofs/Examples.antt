-- Computed examples on pages of 200 bytes, which take four weight records. Assumes nothing.
use mathlib.Core.Path.{◌≡◌, refl}
use mathlib.Core.Bool.{Bool, true, false}
use mathlib.Core.List.{List, [], ◌∷◌, ◌++◌}
use Prim.Native.Nat.{ℕ}
use lib.IntN.{pos}
use lib.Ieee.{binary64, of_bits, of_int, mul}
use Rattle.bit_ops.specs.Key.{num, lt_key}
use Rattle.bit_ops.specs.Steps.{zeros}
use Rattle.leaf_node.specs.Limits.{body_limit, record_limit, value_limit}
use Rattle.leaf_node.specs.Record.{Record, values, total}
use Rattle.leaf_node.specs.Page.{word, count, key_at, number_at, flag_at, offset_at, start, length_at, value_at, record_at, run, records_between, records}
use Rattle.leaf_node.specs.Good.{all_below, offset_step, offset_inside, offsets_right, value_fits, values_fit, key_step, keys_rise, page_verdict}
use Rattle.leaf_node.specs.Build.{le16, tagged, pointers, build}
use Rattle.leaf_work.specs.Verdict.{base_verdict}
use Rattle.row_check.specs.Verdict.{lower, lent_row_verdict}
use Rattle.melt_weight.specs.declared.LeafMelt.{LeafMelt}
use Rattle.melt_weight.specs.Weight.{low, factor_of, limited, long_weight_of, weight_of}
use Rattle.melt_weight.specs.Sheet.{whole_above, sheet_of}
use Rattle.melt_sheet.specs.Melt.{tree_verdict, melt_verdict, refused_melt, melt_of}

-- a tree named by 24 bytes, and the keys of its records
abbrev tree : ℕ → List ℕ
tree t = t ∷ zeros 23

abbrev weight : ℕ → ℕ → Bool → List ℕ → Record
weight t k flag value = record { key = tree t ++ (k ∷ zeros 7); value = value; flag = flag }

-- values: 1,200, 1,300 and 2,500 milligrams, the factors 15.5, 1, 32 and what is next to the ends
abbrev piece1200 : List ℕ
piece1200 = 1 ∷ 176 ∷ 4 ∷ 0 ∷ 0 ∷ []

abbrev piece1300 : List ℕ
piece1300 = 1 ∷ 20 ∷ 5 ∷ 0 ∷ 0 ∷ []

abbrev sprue2500 : List ℕ
sprue2500 = 2 ∷ 196 ∷ 9 ∷ 0 ∷ 0 ∷ []

abbrev factor15·5 : List ℕ
factor15·5 = 3 ∷ 0 ∷ 0 ∷ 0 ∷ 0 ∷ 0 ∷ 0 ∷ 47 ∷ 64 ∷ []

abbrev one : List ℕ
one = 3 ∷ 0 ∷ 0 ∷ 0 ∷ 0 ∷ 0 ∷ 0 ∷ 240 ∷ 63 ∷ []

abbrev below_one : List ℕ
below_one = 3 ∷ 255 ∷ 255 ∷ 255 ∷ 255 ∷ 255 ∷ 255 ∷ 239 ∷ 63 ∷ []

abbrev thirty_two : List ℕ
thirty_two = 3 ∷ 0 ∷ 0 ∷ 0 ∷ 0 ∷ 0 ∷ 0 ∷ 64 ∷ 64 ∷ []

abbrev above_thirty_two : List ℕ
above_thirty_two = 3 ∷ 1 ∷ 0 ∷ 0 ∷ 0 ∷ 0 ∷ 0 ∷ 64 ∷ 64 ∷ []

-- M-106: 64 bits, 2 ^ 39, 2 ^ 40, and a sprue of 2,500
abbrev half_limit : List ℕ
half_limit = 4 ∷ 0 ∷ 0 ∷ 0 ∷ 0 ∷ 128 ∷ 0 ∷ 0 ∷ 0 ∷ []

abbrev limit : List ℕ
limit = 4 ∷ 0 ∷ 0 ∷ 0 ∷ 0 ∷ 0 ∷ 1 ∷ 0 ∷ 0 ∷ []

abbrev long_sprue2500 : List ℕ
long_sprue2500 = 5 ∷ 196 ∷ 9 ∷ 0 ∷ 0 ∷ 0 ∷ 0 ∷ 0 ∷ 0 ∷ []

abbrev sprue_of_lem : ℕ → List ℕ
sprue_of_lem n = 2 ∷ n ∷ 0 ∷ 0 ∷ 0 ∷ []

-- a row of one leaf, and one of two whose second begins at the tree 5
abbrev one_leaf : List Record → LeafMelt
one_leaf rs = melt_of 200 (build 200 rs) (zeros 32 ∷ []) (tree 5)

abbrev two_leaves : List Record → List Record → LeafMelt
two_leaves rs ss = melt_of 200 (build 200 rs ++ build 200 ss) (zeros 32 ∷ (5 ∷ zeros 31) ∷ []) (tree 5)

-- "Pieces of 1,200 and 1,300, sprue 2,500, factor 15.5: total 5,000, melt 77,500."
abbrev papers : LeafMelt
papers = one_leaf (weight 5 1 false piece1200 ∷ weight 5 2 false piece1300 ∷ weight 5 3 false sprue2500 ∷ weight 5 4 false factor15·5 ∷ [])

pub record Papers : Type 0 where
  pub refusal : papers.refusal ≡ 0
  pub total : papers.total ≡ 5000
  pub factor : papers.factor ≡ of_bits binary64 4624915342332788736
  pub product : papers.product ≡ of_int binary64 (pos 77500)
  pub melt : papers.melt ≡ 77500

pub the_papers_tree : Papers
unfolding mul of_int of_bits num lt_key body_limit record_limit value_limit values total word count key_at number_at flag_at offset_at start length_at value_at record_at run records_between records all_below offset_step offset_inside offsets_right value_fits values_fit key_step keys_rise page_verdict le16 tagged pointers build base_verdict lower lent_row_verdict low factor_of limited long_weight_of weight_of whole_above sheet_of tree_verdict melt_verdict melt_of
the_papers_tree = record { refusal = refl; total = refl; factor = refl; product = refl; melt = refl }

-- the number of a tree
abbrev number : LeafMelt → ℕ
number m = m.refusal

pub record Numbers : Type 0 where
  -- No. 19: "another kind", "a wrong length", "a factor not from 1 to 32"
  pub kind_zero : number (one_leaf (weight 5 1 false (0 ∷ zeros 4) ∷ weight 5 2 false sprue2500 ∷ weight 5 3 false one ∷ [])) ≡ 19
  pub no_kind : number (one_leaf (weight 5 1 false [] ∷ weight 5 2 false sprue2500 ∷ weight 5 3 false one ∷ [])) ≡ 19
  pub short_piece : number (one_leaf (weight 5 1 false (1 ∷ zeros 3) ∷ weight 5 2 false sprue2500 ∷ weight 5 3 false one ∷ [])) ≡ 19
  pub factor_below : number (one_leaf (weight 5 2 false sprue2500 ∷ weight 5 3 false below_one ∷ [])) ≡ 19
  pub least_factor_lem : number (one_leaf (weight 5 2 false sprue2500 ∷ weight 5 3 false one ∷ [])) ≡ 0
  pub most_factor_lem : number (one_leaf (weight 5 2 false sprue2500 ∷ weight 5 3 false thirty_two ∷ [])) ≡ 0
  pub factor_above : number (one_leaf (weight 5 2 false sprue2500 ∷ weight 5 3 false above_thirty_two ∷ [])) ≡ 19
  -- No. 20: "without exactly one sprue and one factor"
  pub no_tree : number (one_leaf (weight 4 2 false sprue2500 ∷ weight 4 3 false one ∷ [])) ≡ 20
  pub no_sprue : number (one_leaf (weight 5 1 false piece1200 ∷ weight 5 3 false one ∷ [])) ≡ 20
  pub two_sprues : number (one_leaf (weight 5 1 false sprue2500 ∷ weight 5 2 false sprue2500 ∷ weight 5 3 false one ∷ [])) ≡ 20
  pub no_factor : number (one_leaf (weight 5 2 false sprue2500 ∷ [])) ≡ 20
  pub two_factors : number (one_leaf (weight 5 2 false sprue2500 ∷ weight 5 3 false one ∷ weight 5 4 false one ∷ [])) ≡ 20
  pub no_page : number (melt_of 200 [] [] (tree 5)) ≡ 20
  -- "then with 19 .., and then with 20": wherever they stand
  pub bad_before_odd : number (two_leaves (weight 4 1 false sprue2500 ∷ []) (weight 5 1 false sprue2500 ∷ weight 5 2 false sprue2500 ∷ weight 5 3 false (9 ∷ []) ∷ [])) ≡ 19
  -- "It refuses a row as M-101 does, then"
  pub row_before_bad : number (melt_of 200 (build 200 (weight 5 1 false [] ∷ [])) ((5 ∷ zeros 31) ∷ []) (tree 5)) ≡ 18
  -- "its flagged records are skipped"; records of other trees aren't looked at
  pub flagged : (one_leaf (weight 5 1 true sprue2500 ∷ weight 5 2 false sprue2500 ∷ weight 5 3 false one ∷ weight 5 4 true [] ∷ [])).total ≡ 2500
  pub of_others : (two_leaves (weight 4 1 false [] ∷ weight 4 2 false sprue2500 ∷ []) (weight 5 1 false sprue2500 ∷ weight 5 3 false one ∷ weight 6 1 false one ∷ [])).total ≡ 2500
  -- "add pieces and sprue": none but a sprue of 0 gives 0
  pub nothing : (one_leaf (weight 5 2 false (2 ∷ zeros 4) ∷ weight 5 3 false one ∷ [])).melt ≡ 0
  -- M-106: "with 24, after 23, a tree whose total passes 2 to the 40th"
  pub at_the_limit : number (one_leaf (weight 5 1 false half_limit ∷ weight 5 2 false half_limit ∷ weight 5 3 false (sprue_of_lem 0) ∷ weight 5 4 false one ∷ [])) ≡ 0
  pub passes_the_limit : number (one_leaf (weight 5 1 false half_limit ∷ weight 5 2 false half_limit ∷ weight 5 3 false (sprue_of_lem 1) ∷ weight 5 4 false one ∷ [])) ≡ 24
  pub odd_before_heavy : number (one_leaf (weight 5 1 false limit ∷ weight 5 2 false (sprue_of_lem 1) ∷ weight 5 3 false (sprue_of_lem 1) ∷ [])) ≡ 20
  pub statue : (one_leaf (weight 5 1 false limit ∷ weight 5 2 false (sprue_of_lem 0) ∷ weight 5 3 false thirty_two ∷ [])).melt ≡ 35184372088832
  pub one_sprue_of_each_kind : number (one_leaf (weight 5 1 false sprue2500 ∷ weight 5 2 false long_sprue2500 ∷ weight 5 3 false one ∷ [])) ≡ 20
  -- a refusal has its number alone
  pub refused : one_leaf [] ≡ refused_melt 20

pub numbers_of_a_tree : Numbers
unfolding mul of_int of_bits num lt_key body_limit record_limit value_limit values total word count key_at number_at flag_at offset_at start length_at value_at record_at run records_between records all_below offset_step offset_inside offsets_right value_fits values_fit key_step keys_rise page_verdict le16 tagged pointers build base_verdict lower lent_row_verdict low factor_of limited long_weight_of weight_of whole_above sheet_of tree_verdict melt_verdict melt_of
numbers_of_a_tree = record {
  kind_zero = refl;
  no_kind = refl;
  short_piece = refl;
  factor_below = refl;
  least_factor_lem = refl;
  most_factor_lem = refl;
  factor_above = refl;
  no_tree = refl;
  no_sprue = refl;
  two_sprues = refl;
  no_factor = refl;
  two_factors = refl;
  no_page = refl;
  bad_before_odd = refl;
  row_before_bad = refl;
  flagged = refl;
  of_others = refl;
  nothing = refl;
  at_the_limit = refl;
  passes_the_limit = refl;
  odd_before_heavy = refl;
  statue = refl;
  one_sprue_of_each_kind = refl;
  refused = refl;
}
