-- Demand 3, read from the top; and step rules that look right and are not, apart from the product.
pub mod Demand
pub mod Statements
pub mod Errors
