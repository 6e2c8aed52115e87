pub mod PutRows
