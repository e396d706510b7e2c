mod CountOrders
mod KeyMaps
mod Ranks
