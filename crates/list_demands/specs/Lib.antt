pub mod OwnRecords
