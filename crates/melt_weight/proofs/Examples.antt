-- Computed examples: values read at the edges of their kinds, and products. Assumes nothing.
use Rattle.std.specs.Prelude.{Some, None}
use Rattle.std.proofs.Common.{◌≡◌, ℕ, ◌^◌, [], ◌∷◌, pos, refl}
use lib.Ieee.{Float, binary64, of_bits, of_int, mul}
use Rattle.melt_weight.specs.declared.Weight.TheVariants.{Piece, Sprue, Factor}
use Rattle.melt_weight.specs.Weight.{low, least_factor, most_factor, factor_of, weight_limit, limited, long_weight_of, weight_of}
use Rattle.melt_weight.specs.Sheet.{whole_above, error_parts, digits_of, shift_of}

pub record Values : Type 0 where
  -- "1, a piece's wax in milligrams (32 bits); 2, the sprue's (32 bits)", "all low byte first"
  pub piece : weight_of (1 ∷ 1 ∷ 2 ∷ 3 ∷ 4 ∷ []) ≡ Some (Piece 67305985)
  pub most_sprue : weight_of (2 ∷ 255 ∷ 255 ∷ 255 ∷ 255 ∷ []) ≡ Some (Sprue 4294967295)
  -- "3, the alloy factor as a 64-bit float", from 1 to 32, both ends among them
  pub least_factor_lem : weight_of (3 ∷ 0 ∷ 0 ∷ 0 ∷ 0 ∷ 0 ∷ 0 ∷ 240 ∷ 63 ∷ []) ≡ Some (Factor (of_bits binary64 4607182418800017408))
  pub most_factor_lem : weight_of (3 ∷ 0 ∷ 0 ∷ 0 ∷ 0 ∷ 0 ∷ 0 ∷ 64 ∷ 64 ∷ []) ≡ Some (Factor (of_bits binary64 4629700416936869888))
  pub next_below_1 : weight_of (3 ∷ 255 ∷ 255 ∷ 255 ∷ 255 ∷ 255 ∷ 255 ∷ 239 ∷ 63 ∷ []) ≡ None
  pub next_above_32 : weight_of (3 ∷ 1 ∷ 0 ∷ 0 ∷ 0 ∷ 0 ∷ 0 ∷ 64 ∷ 64 ∷ []) ≡ None
  pub no_number : weight_of (3 ∷ 0 ∷ 0 ∷ 0 ∷ 0 ∷ 0 ∷ 0 ∷ 248 ∷ 127 ∷ []) ≡ None
  pub minus_2 : weight_of (3 ∷ 0 ∷ 0 ∷ 0 ∷ 0 ∷ 0 ∷ 0 ∷ 0 ∷ 192 ∷ []) ≡ None
  -- "another kind, a wrong length"
  pub no_kind : weight_of [] ≡ None
  pub kind_0 : weight_of (0 ∷ 1 ∷ 0 ∷ 0 ∷ 0 ∷ []) ≡ None
  pub nine_byte_piece : weight_of (1 ∷ 1 ∷ 0 ∷ 0 ∷ 0 ∷ 0 ∷ 0 ∷ 0 ∷ 0 ∷ []) ≡ None
  pub short_factor : weight_of (3 ∷ 0 ∷ 0 ∷ 240 ∷ 63 ∷ []) ≡ None
  -- M-106: "Kinds 4 and 5 are piece and sprue in 64 bits, each at most 2 to the 40th."
  pub long_piece : weight_of (4 ∷ 1 ∷ 2 ∷ 3 ∷ 4 ∷ 5 ∷ 0 ∷ 0 ∷ 0 ∷ []) ≡ Some (Piece 21542142465)
  pub long_sprue : weight_of (5 ∷ 7 ∷ 0 ∷ 0 ∷ 0 ∷ 0 ∷ 0 ∷ 0 ∷ 0 ∷ []) ≡ Some (Sprue 7)
  pub most_piece : weight_of (4 ∷ 0 ∷ 0 ∷ 0 ∷ 0 ∷ 0 ∷ 1 ∷ 0 ∷ 0 ∷ []) ≡ Some (Piece 1099511627776)
  pub heavy_piece : weight_of (4 ∷ 1 ∷ 0 ∷ 0 ∷ 0 ∷ 0 ∷ 1 ∷ 0 ∷ 0 ∷ []) ≡ None
  pub heavy_sprue : weight_of (5 ∷ 0 ∷ 0 ∷ 0 ∷ 0 ∷ 0 ∷ 0 ∷ 0 ∷ 1 ∷ []) ≡ None
  pub short_piece : weight_of (4 ∷ 7 ∷ 0 ∷ 0 ∷ 0 ∷ []) ≡ None
  pub kind_6 : weight_of (6 ∷ 7 ∷ 0 ∷ 0 ∷ 0 ∷ 0 ∷ 0 ∷ 0 ∷ 0 ∷ []) ≡ None

pub values_are_read : Values
unfolding low factor_of limited long_weight_of weight_of
values_are_read = record {
  piece = refl;
  most_sprue = refl;
  least_factor_lem = refl;
  most_factor_lem = refl;
  next_below_1 = refl;
  next_above_32 = refl;
  no_number = refl;
  minus_2 = refl;
  no_kind = refl;
  kind_0 = refl;
  nine_byte_piece = refl;
  short_factor = refl;
  long_piece = refl;
  long_sprue = refl;
  most_piece = refl;
  heavy_piece = refl;
  heavy_sprue = refl;
  short_piece = refl;
  kind_6 = refl;
}

-- the product of a total and the factor with these bits
abbrev product : ℕ → ℕ → Float
product total bits = mul binary64 (of_int binary64 (pos total)) (of_bits binary64 bits)

pub record Products : Type 0 where
  -- "Pieces of 1,200 and 1,300, sprue 2,500, factor 15.5: total 5,000, melt 77,500."
  pub papers_product : product 5000 4624915342332788736 ≡ of_int binary64 (pos 77500)
  pub papers_melt : whole_above (product 5000 4624915342332788736) ≡ 77500
  -- 3 times 1.5 is 4.5
  pub above_a_half : whole_above (product 3 4609434218613702656) ≡ 5
  -- 3 times a factor whose exact product is 5 + 2 ^ -52: "not below that product", the rounded one
  pub rounded_to_5 : whole_above (product 3 4610184818551597739) ≡ 5
  pub nothing : whole_above (product 0 4629700416936869888) ≡ 0
  -- 15.5 is 31 / 2, by its bits
  pub digits : digits_of 4624915342332788736 ≡ 8725724278030336
  pub shift : shift_of 4624915342332788736 ≡ 49
  -- "one part in 2 to the 53rd"
  pub parts : error_parts ≡ 9007199254740992
  -- "from 1 to 32", "2 to the 40th"
  pub from_1 : of_bits binary64 least_factor ≡ of_int binary64 (pos 1)
  pub to_32 : of_bits binary64 most_factor ≡ of_int binary64 (pos 32)
  pub limit : weight_limit ≡ 2 ^ 40

pub products_are_rounded : Products
unfolding mul of_int of_bits whole_above digits_of shift_of
products_are_rounded = record {
  papers_product = refl;
  papers_melt = refl;
  above_a_half = refl;
  rounded_to_5 = refl;
  nothing = refl;
  digits = refl;
  shift = refl;
  parts = refl;
  from_1 = refl;
  to_32 = refl;
  limit = refl;
}
