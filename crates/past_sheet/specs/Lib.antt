pub mod PastSheet
