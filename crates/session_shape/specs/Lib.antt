pub mod SessionShape
