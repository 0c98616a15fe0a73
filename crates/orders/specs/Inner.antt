pub mod GoodOrder
