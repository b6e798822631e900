-- The difference fits 64 bits and is exact.
use Rattle.std.proofs.Common.{◌≡◌, ◌-ℤ◌, ◌*ℤ◌, w64, SFits, to_z, of_z}
use Rattle.plane.proofs.Fit.{difference_fits, products_read, fits_read, value_read}
use Rattle.plane.proofs.products.products_difference.Goals as goal

module _ (c : goal.After-times-2) where
  fits : SFits w64 (c.args.a *ℤ c.args.b -ℤ c.args.c *ℤ c.args.d)
  fits = difference_fits _ _ _ _ c.ranges.a c.ranges.b c.ranges.c c.ranges.d

  value : to_z w64 (of_z w64 c.times.result) -ℤ to_z w64 (of_z w64 c.times-2.result) ≡ c.args.a *ℤ c.args.b -ℤ c.args.c *ℤ c.args.d
  value = products_read ◌-ℤ◌ _ _ _ _ _ _ c.ranges.a c.ranges.b c.ranges.c c.ranges.d c.times.ensures c.times-2.ensures

pub overflow_sub-result : goal.overflow_sub-result
overflow_sub-result c = fits_read _ _ (value c) (fits c)

pub returns : goal.returns
returns c = value_read _ _ (value c) (fits c)
