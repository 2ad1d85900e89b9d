use Rattle.quil_value.proofs.Divisions.{quotient_product, product_quotient, no_product}
use Rattle.quil_value.proofs.division_laws.products_of_quotients.Goals as goal

pub returns-clause-product : goal.returns-clause-product
returns-clause-product c = quotient_product

pub returns-clause-quotient : goal.returns-clause-quotient
returns-clause-quotient c = product_quotient

pub returns-clause-none : goal.returns-clause-none
returns-clause-none c = no_product
