-- `barrett::high` meets its contract: the four products of the halves make the high half of the product.
use native.Mathlib.Omega.{arith}
use Rattle.field.proofs.Products.{product-fits, product-sum-fits}
use Rattle.barrett.proofs.Halves.{half_product, half-sum, sums_fit, halves}
use Rattle.barrett.proofs.high.Goals as goal

pub overflow_mul-m : goal.overflow_mul-m
overflow_mul-m c = product-fits _ _ (omega arith) (omega arith)

pub overflow_mul-m-2 : goal.overflow_mul-m-2
overflow_mul-m-2 c = product-fits _ _ (omega arith) (omega arith)

pub overflow_add-m : goal.overflow_add-m
overflow_add-m c = product-sum-fits _ _ _ (omega arith) (omega arith) (half_product _ _ (omega arith) (omega arith))

pub overflow_mul-n : goal.overflow_mul-n
overflow_mul-n c = product-fits _ _ (omega arith) (omega arith)

pub overflow_add-n : goal.overflow_add-n
overflow_add-n c = product-sum-fits _ _ _ (omega arith) (omega arith) (omega arith)

pub overflow_mul-result : goal.overflow_mul-result
overflow_mul-result c = product-fits _ _ (omega arith) (omega arith)

pub overflow_add-result : goal.overflow_add-result
overflow_add-result c = product-sum-fits _ _ _ (omega arith) (omega arith) (half-sum _ _ _ (omega arith) (omega arith) (half_product _ _ (omega arith) (omega arith)))

pub overflow_add-result-2 : goal.overflow_add-result-2
overflow_add-result-2 c =
    sums_fit _ _ _ _
    (omega arith)
    (omega arith)
    (half-sum _ _ _ (omega arith) (omega arith) (half_product _ _ (omega arith) (omega arith)))
    (half-sum _ _ _ (omega arith) (omega arith) (omega arith))

pub returns : goal.returns
returns c = halves _ _
